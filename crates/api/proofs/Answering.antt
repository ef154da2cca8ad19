-- An offered call answers as it should, whether the buffer is sound or not; so after any list of calls the buffer is what the rules say.
-- Assumes nothing.
use Prim.Native.Nat.{ℕ, ◌+◌}
use native.Mathlib.Omega.{arith}
use mathlib.Core.Bool.{true}
use mathlib.Core.List.{List, [], ◌∷◌}
use mathlib.Core.Path.{◌≡◌, sym, ap, subst, ◌∙◌}
use Rattle.rules.specs.Marks.{MarkedStore, MarkedCall, unmarked, after_marked}
use Rattle.layout.specs.Columns.{columns, counts, base, buffer_length, empty_buffer}
use Rattle.layout.proofs.Buffer.{at_columns}
use Rattle.layout.proofs.Empty.{zeros, zeros_read, zeros_sound}
use Rattle.layout.specs.MarkedReading.{mark_count, marked_in, sound_lent}
use Rattle.layout.proofs.Bare.{bare_lent, bare_reads}
use Rattle.api.specs.Calls.{Made, IsEmpty, AfterCalls}

after_made : (calls : List MarkedCall) (entry exit : List ℕ) → sound_lent entry ≡ true → Made entry calls exit
    → (marked_in exit ≡ after_marked (marked_in entry) calls) × (sound_lent exit ≡ true)
unfolding Made after_marked
after_made [] entry exit h e = (ap marked_in e, subst (λ (b : List ℕ). sound_lent b ≡ true) (sym e) h)
after_made (c ∷ cs) entry exit h (mid, r, a, more) =
    let rest = after_made cs mid exit (a.sound h) more in
    (rest.0 ∙ ap (λ (t : MarkedStore). after_marked t cs) (a.reads h), rest.1)

pub after_calls : AfterCalls
unfolding AfterCalls
after_calls entry e calls exit made =
    let p = after_made calls entry exit e.sound made in
    (p.0 ∙ ap (λ (t : MarkedStore). after_marked t calls) e.reads, p.1)

pub zeros_empty : IsEmpty empty_buffer
unfolding mark_count empty_buffer
zeros_empty =
    let none : mark_count (columns empty_buffer) ≡ 0 = at_columns empty_buffer counts 7 (omega arith) ∙ zeros buffer_length (base counts + 7) in
    record {
      sound = bare_lent empty_buffer zeros_sound none;
      reads = bare_reads empty_buffer zeros_sound none ∙ ap unmarked zeros_read;
    }
