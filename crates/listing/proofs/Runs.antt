-- The lines one after the other: what is printed so far, followed by what the rules print from here on, is what they print from the second
-- line on; and five bytes of room for each byte of the listing are enough. Assumes nothing.
use Rattle.rules.specs.declared.types.Cause.TheVariants.{BadLength}
use Prim.Native.Nat.{ℕ, suc, ◌+◌, ◌-◌, ◌*◌, ◌<◌, ◌≤◌}
use native.Mathlib.Numerals.{add-one}
use native.Mathlib.Omega.{arith}
use mathlib.Core.Bool.{true}
use Rattle.std.specs.Prelude as std
use mathlib.Core.List.{List, [], ◌∷◌, ◌++◌, append_assoc}
use mathlib.Core.Path.{◌≡◌, refl, sym, ap, ap₂, subst, ◌∙◌}
use lib.ListN.{length, drop, length-append, length-drop}
use Rattle.rules.specs.Store.{Store, empty_store}
use Rattle.rules.specs.Marks.{unmarked}
use Rattle.rules.specs.Bytes.{line_feed, Pieces}
use Rattle.rules.specs.Listings as rules
use Rattle.rules.specs.Listings.{LineOutcome, prints, stops, refusal, does, proceed, at_end, run, at_start, keeps, leaves, no_tally, twins_program, sums_program, max_listing, max_output}
use Rattle.rules.proofs.Listings.Short.{Within, Terse, does_within, twins_terse, sums_terse}
use Rattle.layout.specs.Reading.{slice, store_in}
use Rattle.layout.proofs.Scans.{slice_length}
use Rattle.layout.specs.MarkedReading.{marked_in, sound_lent}
use Rattle.layout.proofs.Bare.{bare_lent, bare_reads}
use Rattle.equivalence.specs.MappingWords.{empty_words}
use Rattle.listing.specs.Tally.{tally_of}
use Rattle.listing.specs.declared.places.Place.{Place}
use Rattle.rules.specs.declared.types.Cause.{Cause}
use Rattle.lines.specs.Header.{second_line}
use Rattle.lines.proofs.Firsts.{none_left}
use Rattle.lines.specs.Pieces.{pieces_from, PieceEnd}
use Rattle.lines.specs.Writing.{Writes, HasRoom}
use Rattle.lines.specs.declared.writing.LineWriter.{LineWriter}
use Rattle.lines.specs.Room.{refusal_room, share_room}
use Rattle.lines.proofs.Joined.{then, said, within, exactly, nothing}
use Rattle.listing.specs.declared.types.Program.{Program}
use Rattle.listing.specs.declared.types.Program.TheVariants.{Twins, Sums}
use Rattle.listing.specs.Progress.{program_of, progress_of}
use Rattle.listing.specs.Asking.{step_room, outcome_of, Goes}
use Rattle.listing.specs.declared.types.Reading.{Reading}
use Rattle.listing.specs.Stepping.{closes, Bare, LineDoes, Ran}

-- the rules print at most so many bytes for each byte of a line, its line feed included
abbrev per_byte : ℕ
per_byte = 5

-- what the header alone would give room for, and nothing is printed for it
abbrev spare : ℕ
spare = 50

terse : (p : Program) → Terse (program_of p)
unfolding program_of
terse Twins = twins_terse
terse Sums = sums_terse

-- what stands in front of the first difference in a sum
front : (xs ys zs : List ℕ) {whole : List ℕ} → whole ≡ xs ++ (ys ++ zs) → whole ≡ (xs ++ ys) ++ zs
front xs ys zs e = e ∙ sym (append_assoc xs ys zs)

module _ (how : Reading) (listing : List ℕ) where
  -- what the rules print from a place on, at which line number n begins, and the store that they leave
  abbrev prints_from : ℕ → ℕ → rules.Progress → List ℕ
  prints_from n at now = run (program_of how.program) how.edition n now (pieces_from line_feed listing at).whole (pieces_from line_feed listing at).rest

  abbrev leaves_from : ℕ → rules.Progress → Store
  leaves_from at now = (leaves (program_of how.program) how.edition now (pieces_from line_feed listing at).whole).store

  -- ---- a line, and the lines behind it

  module _ (n start e : ℕ) (end : PieceEnd listing start line_feed e) (now : rules.Progress) where
    line_first : e < length listing → prints_from n start now ≡ proceed (does (program_of how.program) how.edition now (slice listing start e)) n (λ next. prints_from (suc n) (e + 1) next)
    unfolding run
    line_first l = ap (λ (q : Pieces). run (program_of how.program) how.edition n now q.whole q.rest) (end.ended l)

    line_leaves : e < length listing → leaves_from start now ≡ (keeps (does (program_of how.program) how.edition now (slice listing start e)) now (λ next. leaves (program_of how.program) how.edition next (pieces_from line_feed listing (e + 1)).whole)).store
    unfolding leaves
    line_leaves l = ap (λ (q : Pieces). (leaves (program_of how.program) how.edition now q.whole).store) (end.ended l)

    module _ (l : e < length listing) where
      printed_on : (b : List ℕ) (next : rules.Progress) → does (program_of how.program) how.edition now (slice listing start e) ≡ prints b next → prints_from n start now ≡ b ++ prints_from (n + 1) (e + 1) next
      unfolding proceed
      printed_on b next d =
          line_first l
          ∙ ap (λ (o : LineOutcome). proceed o n (λ next'. prints_from (suc n) (e + 1) next')) d
          ∙ ap (λ (k : ℕ). b ++ prints_from k (e + 1) next) (sym (add-one n))

      left_on_lem : (b : List ℕ) (next : rules.Progress) → does (program_of how.program) how.edition now (slice listing start e) ≡ prints b next → leaves_from start now ≡ leaves_from (e + 1) next
      unfolding keeps
      left_on_lem b next d = line_leaves l ∙ ap (λ (o : LineOutcome). (keeps o now (λ next'. leaves (program_of how.program) how.edition next' (pieces_from line_feed listing (e + 1)).whole)).store) d

      stops_here : (k : Cause) → does (program_of how.program) how.edition now (slice listing start e) ≡ stops k → prints_from n start now ≡ refusal n k
      unfolding proceed
      stops_here k d = line_first l ∙ ap (λ (o : LineOutcome). proceed o n (λ next'. prints_from (suc n) (e + 1) next')) d

      left_here_lem : (k : Cause) → does (program_of how.program) how.edition now (slice listing start e) ≡ stops k → leaves_from start now ≡ now.store
      unfolding keeps
      left_here_lem k d = line_leaves l ∙ ap (λ (o : LineOutcome). (keeps o now (λ next'. leaves (program_of how.program) how.edition next' (pieces_from line_feed listing (e + 1)).whole)).store) d

      -- five bytes for each byte of the line, its line feed included
      line_short : (b : List ℕ) (next : rules.Progress) → does (program_of how.program) how.edition now (slice listing start e) ≡ prints b next → length b + per_byte * start ≤ per_byte * (e + 1)
      line_short b next d =
          let w : length b ≤ per_byte * suc (length (slice listing start e)) = subst (Within (per_byte * suc (length (slice listing start e)))) d (does_within (program_of how.program) (terse how.program) how.edition now (slice listing start e)) in
          let m : length (slice listing start e) ≡ e - start = slice_length listing start e end.within in
          let f : start ≤ e = end.behind in
          omega arith

    some_bytes : (xs : List ℕ) → (length xs ≡ 0 → ⊥) → at_end (program_of how.program) n now xs ≡ refusal n BadLength
    unfolding at_end
    some_bytes [] h = absurd (h refl)
    some_bytes (x ∷ xs) h = refl

    -- no line feed is left
    pub unended : start < length listing → e ≡ length listing → prints_from n start now ≡ refusal n BadLength
    unfolding run
    unended l q =
        ap (λ (r : Pieces). run (program_of how.program) how.edition n now r.whole r.rest) (end.unended (omega arith))
        ∙ some_bytes (drop start listing) (λ z. absurd (let w : ⊥ = omega (arith, length-drop start listing) in w))

    pub nothing_more : start < length listing → e ≡ length listing → leaves_from start now ≡ now.store
    unfolding leaves
    nothing_more l q = ap (λ (r : Pieces). (leaves (program_of how.program) how.edition now r.whole).store) (end.unended (omega arith))

  -- ---- behind the last line

  module _ (n start : ℕ) (now : rules.Progress) (ends : start ≡ length listing) where
    no_pieces : pieces_from line_feed listing start ≡ record { whole = []; rest = [] }
    no_pieces = none_left line_feed listing start (omega (arith, ends))

    closes_here : prints_from n start now ≡ (program_of how.program).close now
    unfolding run at_end
    closes_here = ap (λ (q : Pieces). run (program_of how.program) how.edition n now q.whole q.rest) no_pieces

    leaves_here : leaves_from start now ≡ now.store
    unfolding leaves
    leaves_here = ap (λ (q : Pieces). (leaves (program_of how.program) how.edition now q.whole).store) no_pieces

closing : (p : Program) (store : List ℕ) (tally : List Place) → (program_of p).close (progress_of store tally) ≡ closes p tally
unfolding program_of closes progress_of twins_program sums_program
closing Twins store tally = refl
closing Sums store tally = refl

-- ---- the loop

module _ (how : Reading) (listing : List ℕ) (from : ℕ) (before : LineWriter) where
  pub record Running (store mapping : List ℕ) (tally : List Place) (out : LineWriter) (n start : ℕ) : Type 0 where
    pub bare : Bare store
    pub empty : mapping ≡ empty_words
    pub bytes : List ℕ
    pub writes : Writes (per_byte * start) bytes before out
    pub whole : prints_from how listing 2 from at_start ≡ bytes ++ prints_from how listing n start (progress_of store tally)
    pub store_left : leaves_from how listing from at_start ≡ leaves_from how listing start (progress_of store tally)
    pub room : length bytes + spare ≤ per_byte * start
    pub within : start ≤ length listing
    pub lines : n ≤ start

module _ {how : Reading} {listing : List ℕ} {from : ℕ} {before : LineWriter} (roomy : HasRoom max_output before) (short : length listing ≤ max_listing) where
  pub running_starts : (store mapping : List ℕ) (tally : List Place) → Bare store → store_in store ≡ empty_store → mapping ≡ empty_words → tally_of tally ≡ no_tally
      → second_line ≤ from → from ≤ length listing → Running how listing from before store mapping tally before 2 from
  unfolding progress_of at_start
  running_starts store mapping tally bare reads e none long h =
      record {
        bare = bare;
        empty = e;
        bytes = [];
        writes = nothing (per_byte * from) before;
        whole = ap₂ (λ (s : Store) (t : rules.Tally). prints_from how listing 2 from (record { store = s; tally = t })) (sym reads) (sym none);
        store_left = ap₂ (λ (s : Store) (t : rules.Tally). leaves_from how listing from (record { store = s; tally = t })) (sym reads) (sym none);
        room = omega arith;
        within = h;
        lines = omega arith;
      }

  module _ {store mapping : List ℕ} {tally : List Place} {out : LineWriter} {n start : ℕ} (inv : Running how listing from before store mapping tally out n start) where
    all_fits : length inv.bytes + spare ≤ max_output
    all_fits = omega (arith, inv.room, inv.within)

    pub has_room : HasRoom spare out
    has_room = omega (arith, all_fits, inv.writes.long, inv.writes.wrote.behind)

    pub few_lines : n ≤ max_listing
    few_lines = let a = inv.lines in let b = inv.within in omega arith

    -- what was printed, and then these bytes, are all
    finished : (last : List ℕ) (most : ℕ) (after : LineWriter) → most ≤ step_room → Writes most last out after → prints_from how listing n start (progress_of store tally) ≡ last
        → Writes max_output (prints_from how listing 2 from at_start) before after
    finished last most after m w e =
        let all = then (exactly inv.writes) w (omega (arith, all_fits)) in
        within (said all (sym (inv.whole ∙ ap (λ (xs : List ℕ). inv.bytes ++ xs) e))) (omega (arith, all_fits))

    pub ran : (last : List ℕ) (most : ℕ) (store' : List ℕ) (after : LineWriter) → store' ≡ store → most ≤ step_room → Writes most last out after
        → prints_from how listing n start (progress_of store tally) ≡ last → leaves_from how listing start (progress_of store tally) ≡ store_in store
        → (mapping' : List ℕ) → mapping' ≡ empty_words → Ran how listing from store' mapping' before after
    ran last most store' after s m w e f mapping' q =
        record {
          writes = finished last most after m w e;
          left = ap marked_in s ∙ bare_reads store inv.bare.sound inv.bare.unmarked ∙ ap unmarked (sym (inv.store_left ∙ f));
          sound = subst (λ (b : List ℕ). sound_lent b ≡ true) (sym s) (bare_lent store inv.bare.sound inv.bare.unmarked);
          empty = q;
        }

    pub ran_out : (after : LineWriter) → length listing ≤ start → Writes share_room (closes how.program tally) out after → Ran how listing from store mapping before after
    unfolding progress_of
    ran_out after l w =
        let a = inv.within in
        let e : start ≡ length listing = omega arith in
        ran (closes how.program tally) share_room store after refl (omega arith) w
        (closes_here how listing n start (progress_of store tally) e ∙ closing how.program store tally)
        (leaves_here how listing n start (progress_of store tally) e)
        mapping inv.empty

    module _ (e : ℕ) (end : PieceEnd listing start line_feed e) (l : start < length listing) where
      pub ran_unended : (after : LineWriter) → e ≡ length listing → Writes refusal_room (refusal n BadLength) out after → Ran how listing from store mapping before after
      unfolding progress_of
      ran_unended after q w =
          ran (refusal n BadLength) refusal_room store after refl (omega arith) w
          (unended how listing n start e end (progress_of store tally) l q)
          (nothing_more how listing n start e end (progress_of store tally) l q)
          mapping inv.empty

      module _ (m : e ≡ length listing → ⊥) (store' : List ℕ) (tally' : List Place) (out' : LineWriter) where
        ended : e < length listing
        ended = let w : e ≤ length listing = end.within in omega arith

        module _ (k : Cause) (did : LineDoes how (slice listing start e) store store' tally tally' out out' (std.Err k)) where
          stops_there : does (program_of how.program) how.edition (progress_of store tally) (slice listing start e) ≡ stops k
          unfolding outcome_of
          stops_there = did.step.does

          same_out : out' ≡ out
          unfolding Goes
          same_out = did.step.goes

          pub refusal_fits : HasRoom refusal_room out'
          refusal_fits = subst (HasRoom refusal_room) (sym same_out) (omega (arith, has_room))

          pub ran_stopped : (mapping' : List ℕ) (after : LineWriter) → mapping' ≡ empty_words → Writes refusal_room (refusal n k) out' after → Ran how listing from store' mapping' before after
          unfolding progress_of
          ran_stopped mapping' after q w =
              ran (refusal n k) refusal_room store' after (did.unchanged k refl) (omega arith) (subst (λ (x : LineWriter). Writes refusal_room (refusal n k) x after) same_out w)
              (stops_here how listing n start e end (progress_of store tally) ended k stops_there)
              (left_here_lem how listing n start e end (progress_of store tally) ended k stops_there)
              mapping' q

        module _ (did : LineDoes how (slice listing start e) store store' tally tally' out out' (std.Ok tt)) where
          goes_there : does (program_of how.program) how.edition (progress_of store tally) (slice listing start e) ≡ prints did.step.bytes (progress_of store' tally')
          unfolding outcome_of
          goes_there = did.step.does

          more : Writes step_room did.step.bytes out out'
          unfolding Goes
          more = did.step.goes

          pub running_turn : (mapping' : List ℕ) → mapping' ≡ empty_words → Running how listing from before store' mapping' tally' out' (n + 1) (e + 1)
          running_turn mapping' q =
              let a = inv.room in
              let f : start ≤ e = end.behind in
              let z : length did.step.bytes + per_byte * start ≤ per_byte * (e + 1) = line_short how listing n start e end (progress_of store tally) ended did.step.bytes (progress_of store' tally') goes_there in
              let long : length (inv.bytes ++ did.step.bytes) ≡ length inv.bytes + length did.step.bytes = length-append inv.bytes did.step.bytes in
              let t = inv.lines in
              let i = ended in
              record {
                bare = record { sound = did.sound; unmarked = did.marks ∙ inv.bare.unmarked };
                empty = q;
                bytes = inv.bytes ++ did.step.bytes;
                writes = within (then (exactly inv.writes) (exactly more) (omega (arith, all_fits))) (omega arith);
                whole =
                    front inv.bytes did.step.bytes _
                    (inv.whole ∙ ap (λ (xs : List ℕ). inv.bytes ++ xs) (printed_on how listing n start e end (progress_of store tally) ended did.step.bytes (progress_of store' tally') goes_there));
                store_left = inv.store_left ∙ left_on_lem how listing n start e end (progress_of store tally) ended did.step.bytes (progress_of store' tally') goes_there;
                room = omega arith;
                within = omega arith;
                lines = omega arith;
              }
