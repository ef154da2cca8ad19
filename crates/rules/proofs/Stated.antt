-- Statements whose lemma is written otherwise than they are: each by the lemma that it is. Assumes nothing.
use Rattle.rules.specs.Store.{empty_store}
use Rattle.rules.specs.EqualityLaws.{CanonicalEqual, EqualCanonical, ComparisonIs, NeverRefused, EqualAnswered, PairedMost, InherentKept}
use Rattle.rules.specs.HashLaws.{CanonicalHash, HashedIs}
use Rattle.rules.specs.BuildingLaws.{BuiltSound, AfterSound, SizeMost}
use Rattle.rules.specs.MappingLaws.{AllowedKept, EntersPaired}
use Rattle.rules.specs.ListingLaws.{CountedExactly, ShareMost, OutputFits, PerCentNearest}
use Rattle.rules.specs.RunLaws.{FirstUses}
use Rattle.rules.proofs.Soundness.Kept as kept
use Rattle.rules.proofs.Walking.Answered as walking
use Rattle.rules.proofs.Walking.Paired as pairing
use Rattle.rules.proofs.Walking.Allowed as allowing
use Rattle.rules.proofs.Walking.Entered as entering
use Rattle.rules.proofs.Listings.Nearest as nearest
use Rattle.rules.proofs.Listings.Counted as counting
use Rattle.rules.proofs.Form.Counted as sizing
use Rattle.rules.proofs.Form.Canonical as forms
use Rattle.rules.proofs.Form.Inherent as inherent
use Rattle.rules.proofs.Listings.Short as short
use Rattle.rules.proofs.Runs.FirstUses as uses

pub canonical_equal : CanonicalEqual
unfolding CanonicalEqual
canonical_equal s sd ig f a b ia ib e = forms.canonical→equal s sd ig f a b ia ib e

pub equal_canonical : EqualCanonical
unfolding EqualCanonical
equal_canonical s sd ig f a b ia ib p e = forms.equal→canonical s sd ig f a b ia ib p e

pub canonical_hash : CanonicalHash
unfolding CanonicalHash
canonical_hash s ig f a b e = forms.canonical→hash s ig f a b e

pub built_sound : BuiltSound
unfolding BuiltSound
built_sound s c h = kept.built_sound s c h

pub after_sound : AfterSound
unfolding AfterSound
after_sound calls = kept.after_sound empty_store calls kept.empty_sound

pub comparison_is : ComparisonIs
unfolding ComparisonIs
comparison_is s sd types th ig f m am l r il ir = walking.comparison_is s sd ig f types th m am l r il ir

pub never_refused : NeverRefused
unfolding NeverRefused
never_refused s sd types th ig f m am l r il ir cause e = walking.never_refused s sd ig f types th m am l r il ir cause e

pub hashed_is : HashedIs
unfolding HashedIs
hashed_is s sd types th ig f n i = walking.hashed_is s sd ig f types th n i

pub equal_answered : EqualAnswered
unfolding EqualAnswered
equal_answered s sd types th ig f a b ia ib = walking.equal_answered s sd types th ig f a b ia ib

pub allowed_kept : AllowedKept
unfolding AllowedKept
allowed_kept s sd ig f m am l r il ir = allowing.allowed_kept s ig f l r il ir m am

pub entered_by : EntersPaired
unfolding EntersPaired
entered_by s sd ig f l r il ir = entering.entered_by s sd ig f l r il ir

pub paired_most : PairedMost
unfolding PairedMost
paired_most s sd ig f l r i st = pairing.paired_most s sd ig f l r i st

pub size_most : SizeMost
unfolding SizeMost
size_most s sd f n i = sizing.size_most s sd f n i

pub counted_exactly : CountedExactly
unfolding CountedExactly
counted_exactly e lines m = (counting.counted_all e lines m, counting.counted_equal e lines m)

pub share_most : ShareMost
unfolding ShareMost
share_most e lines = counting.share_most e lines

pub output_fits : OutputFits
unfolding OutputFits
output_fits bytes = (short.twins_short bytes, short.sums_short bytes)

pub per_cent_nearest : PerCentNearest
unfolding PerCentNearest
per_cent_nearest part whole pos = nearest.per_cent_nearest part whole pos

pub first_uses : FirstUses
unfolding FirstUses
first_uses s ig b l r ls rs h i k = uses.first_uses s ig b l r ls rs h i k

pub inherent_kept : InherentKept
unfolding InherentKept
inherent_kept s sd ig f a b ia e = inherent.inherent_kept s sd ig f a b ia e
