-- `hash_flag` meets its contract: yes is tag 1, no is tag 0. Assumes nothing.
use Rattle.std.proofs.Common.{◌≡◌, Bool, true, false, refl, ap, ◌∙◌}
use mir.Val.{bool_byte}
use Rattle.rules.specs.Hash.{fnv_from, bytes, tag, flag}
use Rattle.hashing.proofs.state.RunningHash.hash_flag.Goals as goal

flag_byte : (b : Bool) → tag (bool_byte b) ≡ flag b
unfolding tag bytes flag
flag_byte true = refl
flag_byte false = refl

pub returns : goal.returns
returns c =
    let a = c.args in
    c.hash_tag.ensures ∙ ap (λ n. fnv_from a.self.now.word (tag n)) c.from.ensures ∙ ap (fnv_from a.self.now.word) (flag_byte a.yes)
