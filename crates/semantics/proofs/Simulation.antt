-- Isomorphic code does the same work: at each step the two runs stand at corresponding places, with corresponding frames around, and the
-- registers of what corresponds hold the same. Assumes nothing.
use Prim.Native.Nat.{ℕ, zero, suc}
use mathlib.Core.Bool.{Bool, true, false, cond}
use mathlib.Core.List.{List, [], ◌∷◌, map, map-map, Memᴰ}
use mathlib.Core.Logic.{◌⊎◌, inl, inr}
use Rattle.std.specs.Prelude.{Option, None, Some}
use mathlib.Core.Path.{◌≡◌, refl, sym, ap, subst, ◌∙◌}
use borrow.Author.Tests.{eqb-true, eqb-false, ne_eqb, eq-eqb}
use lib.Dec.{eqb}
use Rattle.std.specs.List.{list_any}
use Rattle.rules.specs.Mapping.{Mapping, image}
use Rattle.rules.specs.MappingLaws.{Bijection}
use Rattle.rules.proofs.Basics.Filtered.{any_where}
use Rattle.rules.proofs.Copying.Renumbered.{map_same}
use Rattle.semantics.specs.Meaning.{Act, give, jump, leave, enter, Meaning}
use Rattle.semantics.specs.Machine.{Code, Registers, put, write, Frame, behind, kept, Now, works, arrives, ended, Ran, entry_at, leaves, jumps, jumps_to, begins, goes_on, enters, enters_region, does, run}
use Rattle.semantics.specs.Isomorphic.{images}
use Rattle.semantics.specs.SameWork.{moved, Agree, RunsAlike}
use Rattle.semantics.proofs.Images.{stands, image_out, image_in, image_once, any_image}

-- two pieces of code, a mapping, and what the left one and the right one define: values, blocks; and the left one's operations
module _ (C D : Code) (m : Mapping) (VA VB BA BB OA : List ℕ) where
  -- what the runs rest on
  pub record Ground : Type 0 where
    pub of_values : Bijection m.values VA VB
    pub of_blocks : Bijection m.blocks BA BB
    pub op_fields : (n : ℕ) → Memᴰ n OA → C.op_fields n ≡ D.op_fields (image m.ops n)
    pub operands : (n : ℕ) → Memᴰ n OA → images m.values (C.operands n) ≡ D.operands (image m.ops n)
    pub results : (n : ℕ) → Memᴰ n OA → images m.values (C.results n) ≡ D.results (image m.ops n)
    pub successors : (n : ℕ) → Memᴰ n OA → images m.blocks (C.successors n) ≡ D.successors (image m.ops n)
    pub regions : (n : ℕ) → Memᴰ n OA → map (images m.blocks) (C.regions n) ≡ D.regions (image m.ops n)
    pub block_fields : (c : ℕ) → Memᴰ c BA → C.block_fields c ≡ D.block_fields (image m.blocks c)
    pub arguments : (c : ℕ) → Memᴰ c BA → images m.values (C.arguments c) ≡ D.arguments (image m.blocks c)
    pub ops : (c : ℕ) → Memᴰ c BA → images m.ops (C.ops c) ≡ D.ops (image m.blocks c)
    -- what is named is inside, or in neither
    pub operands_apart : (n v : ℕ) → Memᴰ n OA → Memᴰ v (C.operands n) → Memᴰ v VA ⊎ (Memᴰ v VB → ⊥)
    pub successors_apart : (n c : ℕ) → Memᴰ n OA → Memᴰ c (C.successors n) → Memᴰ c BA ⊎ (Memᴰ c BB → ⊥)
    pub ops_below : (c n : ℕ) → Memᴰ c BA → Memᴰ n (C.ops c) → Memᴰ n OA
    pub blocks_below : (n : ℕ) (bs : List ℕ) (c : ℕ) → Memᴰ n OA → Memᴰ bs (C.regions n) → Memᴰ c bs → Memᴰ c BA
    pub results_below : (n v : ℕ) → Memᴰ n OA → Memᴰ v (C.results n) → Memᴰ v VA
    pub arguments_below : (c v : ℕ) → Memᴰ c BA → Memᴰ v (C.arguments c) → Memᴰ v VA

  module _ (g : Ground) {Data World Mind : Type 0} (M : Meaning Data World Mind) (R₀ S₀ : Registers Data) (agree : Agree m VA VB R₀ S₀) where
    -- ---- registers

    pub record Held (R S : Registers Data) : Type 0 where
      pub inside : (v : ℕ) → Memᴰ v VA → R v ≡ S (image m.values v)
      pub outside_a : (v : ℕ) → (Memᴰ v VA → ⊥) → R v ≡ R₀ v
      pub outside_b : (v : ℕ) → (Memᴰ v VB → ⊥) → S v ≡ S₀ v

    put_here : (v : ℕ) (x : Option Data) (R : Registers Data) → put v x R v ≡ x
    unfolding put
    put_here v x R = rw (eq-eqb v v refl)

    put_there : (v : ℕ) (x : Option Data) (R : Registers Data) (u : ℕ) → (u ≡ v → ⊥) → put v x R u ≡ R u
    unfolding put
    put_there v x R u ne = rw (ne_eqb u v ne)

    held_put : (v : ℕ) (x : Option Data) (R S : Registers Data) → Memᴰ v VA → Held R S → Held (put v x R) (put (image m.values v) x S)
    held_put v x R S i h =
        record {
          inside = λ u k. go u k (eqb u v) refl;
          outside_a = λ u out. put_there v x R u (λ e. out (subst (λ (y : ℕ). Memᴰ y VA) (sym e) i)) ∙ h.outside_a u out;
          outside_b = λ u out.
              put_there (image m.values v) x S u (λ e. out (subst (λ (y : ℕ). Memᴰ y VB) (sym e) (image_in m.values VA VB g.of_values v i)))
              ∙ h.outside_b u out;
        }
      where
        go : (u : ℕ) → Memᴰ u VA → (t : Bool) → eqb u v ≡ t → put v x R u ≡ put (image m.values v) x S (image m.values u)
        go u k true e = rw (eqb-true u v e) (put_here v x R ∙ sym (put_here (image m.values v) x S))
        go u k false e =
            put_there v x R u (eqb-false u v e)
            ∙ h.inside u k
            ∙ sym (put_there (image m.values v) x S (image m.values u) (λ q. eqb-false u v e (image_once m.values VA VB g.of_values u v k i q)))

    held_write : (vs : List ℕ) (ds : List Data) (R S : Registers Data) → ((v : ℕ) → Memᴰ v vs → Memᴰ v VA) → Held R S
        → Held (write vs ds R) (write (images m.values vs) ds S)
    unfolding write
    held_write [] ds R S sub h = h
    held_write (v ∷ vs) [] R S sub h =
        held_write vs [] (put v None R) (put (image m.values v) None S) (λ u k. sub u (Memᴰ.tail k)) (held_put v None R S (sub v (Memᴰ.head refl)) h)
    held_write (v ∷ vs) (d ∷ ds) R S sub h =
        held_write vs ds (put v (Some d) R) (put (image m.values v) (Some d) S) (λ u k. sub u (Memᴰ.tail k)) (held_put v (Some d) R S (sub v (Memᴰ.head refl)) h)

    -- what is named is read alike
    read_one : (R S : Registers Data) → Held R S → (v : ℕ) → Memᴰ v VA ⊎ (Memᴰ v VB → ⊥) → R v ≡ S (image m.values v)
    read_one R S h v q = go (stands v VA) q
      where
        go : Memᴰ v VA ⊎ (Memᴰ v VA → ⊥) → Memᴰ v VA ⊎ (Memᴰ v VB → ⊥) → R v ≡ S (image m.values v)
        go (inl i) k = h.inside v i
        go (inr i) (inl k) = absurd (i k)
        go (inr i) (inr k) = rw (image_out m.values VA VB g.of_values v i) (h.outside_a v i ∙ agree.outside v i k ∙ sym (h.outside_b v k))

    read : (n : ℕ) → Memᴰ n OA → (R S : Registers Data) → Held R S → map S (D.operands (image m.ops n)) ≡ map R (C.operands n)
    read n i R S h =
        ap (map S) (sym (g.operands n i))
        ∙ map-map S (image m.values) (C.operands n)
        ∙ map_same (λ (v : ℕ). S (image m.values v)) R (C.operands n) (λ v k. sym (read_one R S h v (g.operands_apart n v i k)))

    -- ---- places

    abbrev pub frame : Frame Mind → Frame Mind
    frame (behind bs ns) = behind (images m.blocks bs) (images m.ops ns)
    frame (kept n x) = kept (image m.ops n) x

    abbrev pub now : Now Data Mind → Now Data Mind
    now (works n x fs) = works (image m.ops n) x (map frame fs)
    now (arrives bs c ds fs) = arrives (images m.blocks bs) (image m.blocks c) ds (map frame fs)
    now (ended e) = ended (moved m e)

    abbrev pub FrameIn : Frame Mind → Type 0
    FrameIn (behind bs ns) = ((c : ℕ) → Memᴰ c bs → Memᴰ c BA) × ((n : ℕ) → Memᴰ n ns → Memᴰ n OA)
    FrameIn (kept n x) = Memᴰ n OA

    abbrev pub FramesIn : List (Frame Mind) → Type 0
    FramesIn [] = Unit {0}
    FramesIn (x ∷ fs) = FrameIn x × FramesIn fs

    abbrev pub NowIn : Now Data Mind → Type 0
    NowIn (works n x fs) = Memᴰ n OA × FramesIn fs
    NowIn (arrives bs c ds fs) = ((x : ℕ) → Memᴰ x bs → Memᴰ x BA) × Memᴰ c BA × FramesIn fs
    NowIn (ended e) = Unit {0}

    -- a place on the right is that of the left, moved; and that one is inside
    pub record Stand (y x : Now Data Mind) : Type 0 where
      pub place : y ≡ now x
      pub in_a : NowIn x

    pub begin_alike : (n : ℕ) (fs : List (Frame Mind)) (R S : Registers Data) → Memᴰ n OA → FramesIn fs → Held R S
        → Stand (begins M D (image m.ops n) (map frame fs) S) (begins M C n fs R)
    unfolding begins
    begin_alike n fs R S i k h =
        record {
          place = rw (sym (g.op_fields n i), read n i R S h);
          in_a = (i, k);
        }

    pub goes_alike : (fs : List (Frame Mind)) (R S : Registers Data) → FramesIn fs → Held R S → Stand (goes_on M D (map frame fs) S) (goes_on M C fs R)
    unfolding goes_on moved
    goes_alike [] R S k h = record { place = refl; in_a = tt }
    goes_alike (behind bs [] ∷ fs) R S k h = goes_alike fs R S k.1 h
    goes_alike (behind bs (n ∷ ns) ∷ fs) R S k h =
        begin_alike n (behind bs ns ∷ fs) R S (k.0.1 n (Memᴰ.head refl)) ((k.0.0, λ x j. k.0.1 x (Memᴰ.tail j)), k.1) h
    goes_alike (kept n x ∷ fs) R S k h = record { place = refl; in_a = k }

    leaves_alike : (ds : List Data) (fs : List (Frame Mind)) → FramesIn fs → Stand (leaves M ds (map frame fs)) (leaves M ds fs)
    unfolding leaves moved
    leaves_alike ds [] k = record { place = refl; in_a = tt }
    leaves_alike ds (behind bs ns ∷ fs) k = leaves_alike ds fs k.1
    leaves_alike ds (kept n x ∷ fs) k = record { place = refl; in_a = k }

    jumps_alike : (c : ℕ) (ds : List Data) (fs : List (Frame Mind)) → Memᴰ c BA ⊎ (Memᴰ c BB → ⊥) → FramesIn fs
        → Stand (jumps M (image m.blocks c) ds (map frame fs)) (jumps M c ds fs)
    unfolding jumps moved
    jumps_alike c ds [] q k = record { place = refl; in_a = tt }
    jumps_alike c ds (kept n x ∷ fs) q k = jumps_alike c ds fs q k.1
    jumps_alike c ds (behind bs ns ∷ fs) q k =
        rw (any_image m.blocks BA BB g.of_blocks c bs k.0.0 q) (go (list_any (eqb c) bs) refl (jumps_alike c ds fs q k.1))
      where
        go : (t : Bool) → list_any (eqb c) bs ≡ t → Stand (jumps M (image m.blocks c) ds (map frame fs)) (jumps M c ds fs)
            → Stand (cond t (arrives (images m.blocks bs) (image m.blocks c) ds (map frame fs)) (jumps M (image m.blocks c) ds (map frame fs)))
            (cond t (arrives bs c ds fs) (jumps M c ds fs))
        go true e rest =
            let w = any_where (eqb c) bs e in
            record { place = refl; in_a = (k.0.0, k.0.0 c (subst (λ (x : ℕ). Memᴰ x bs) (sym (eqb-true c w.0 w.2)) w.1), k.1) }
        go false e rest = rest

    -- to the i-th of these
    jump_alike : (cs : List ℕ) (i : ℕ) (ds : List Data) (fs : List (Frame Mind)) → ((c : ℕ) → Memᴰ c cs → Memᴰ c BA ⊎ (Memᴰ c BB → ⊥)) → FramesIn fs
        → Stand (jumps_to M (entry_at (images m.blocks cs) i) ds (map frame fs)) (jumps_to M (entry_at cs i) ds fs)
    unfolding entry_at jumps_to moved
    jump_alike [] i ds fs q k = record { place = refl; in_a = tt }
    jump_alike (c ∷ cs) zero ds fs q k = jumps_alike c ds fs (q c (Memᴰ.head refl)) k
    jump_alike (c ∷ cs) (suc i) ds fs q k = jump_alike cs i ds fs (λ x j. q x (Memᴰ.tail j)) k

    pub enters_alike : (bs : List ℕ) (ds : List Data) (fs : List (Frame Mind)) (R S : Registers Data) → ((c : ℕ) → Memᴰ c bs → Memᴰ c BA) → FramesIn fs → Held R S
        → Stand (enters M D (images m.blocks bs) ds (map frame fs) S) (enters M C bs ds fs R)
    unfolding enters
    enters_alike [] ds fs R S q k h = goes_alike fs R S k h
    enters_alike (c ∷ bs) ds fs R S q k h = record { place = refl; in_a = (q, q c (Memᴰ.head refl), k) }

    -- the i-th of these regions and the i-th of those, with corresponding blocks
    region_alike : (xs ys : List (List ℕ)) → map (images m.blocks) xs ≡ ys
        → (i : ℕ) (ds : List Data) (fs : List (Frame Mind)) (R S : Registers Data) → ((bs : List ℕ) (c : ℕ) → Memᴰ bs xs → Memᴰ c bs → Memᴰ c BA) → FramesIn fs → Held R S
        → Stand (enters_region M D (entry_at ys i) ds (map frame fs) S) (enters_region M C (entry_at xs i) ds fs R)
    unfolding entry_at enters_region moved
    region_alike [] [] e i ds fs R S q k h = record { place = refl; in_a = tt }
    region_alike [] (y ∷ ys) e i ds fs R S q k h = let z : ⊥ = cc in absurd z
    region_alike (x ∷ xs) [] e i ds fs R S q k h = let z : ⊥ = cc in absurd z
    region_alike (x ∷ xs) (y ∷ ys) e zero ds fs R S q k h =
        let p : images m.blocks x ≡ y = cc in
        rw (sym p) (enters_alike x ds fs R S (λ c j. q x c (Memᴰ.head refl) j) k h)
    region_alike (x ∷ xs) (y ∷ ys) e (suc i) ds fs R S q k h =
        let p : map (images m.blocks) xs ≡ ys = cc in
        region_alike xs ys p i ds fs R S (λ bs c j l. q bs c (Memᴰ.tail j) l) k h

    -- ---- one step

    record Did (y x : Now Data Mind × Registers Data) : Type 0 where
      stand : Stand y.0 x.0
      held : Held x.1 y.1

    does_alike : (t : Act Data Mind) (n : ℕ) (fs : List (Frame Mind)) (R S : Registers Data) → Memᴰ n OA → FramesIn fs → Held R S
        → Did (does M D t (image m.ops n) (map frame fs) S) (does M C t n fs R)
    unfolding does
    does_alike (give ds) n fs R S i k h =
        let h' : Held (write (C.results n) ds R) (write (D.results (image m.ops n)) ds S) =
        rw (sym (g.results n i)) (held_write (C.results n) ds R S (λ v j. g.results_below n v i j) h)
        in
        record { stand = goes_alike fs (write (C.results n) ds R) (write (D.results (image m.ops n)) ds S) k h'; held = h' }
    does_alike (jump j ds) n fs R S i k h =
        record { stand = rw (sym (g.successors n i)) (jump_alike (C.successors n) j ds fs (λ c l. g.successors_apart n c i l) k); held = h }
    does_alike (leave ds) n fs R S i k h = record { stand = leaves_alike ds fs k; held = h }
    does_alike (enter j ds x) n fs R S i k h =
        record {
          stand =
              region_alike (C.regions n) (D.regions (image m.ops n)) (g.regions n i) j ds (kept n x ∷ fs) R S
              (λ bs c l q. g.blocks_below n bs c i l q) (i, k) h;
          held = h;
        }

    -- ---- all steps

    abbrev Alike : Ran Data World → Ran Data World → Type 0
    Alike = RunsAlike m VA VB R₀ S₀

    runs_alike : (k : ℕ) (x : Now Data Mind) (R S : Registers Data) (w : World) → NowIn x → Held R S
        → Alike (run M C k x R w) (run M D k (now x) S w)
    unfolding run moved
    runs_alike zero (works n u fs) R S w i h =
        record { how = refl; world = refl; steps = refl; inside = h.inside; outside_a = h.outside_a; outside_b = h.outside_b }
    runs_alike zero (arrives bs c ds fs) R S w i h =
        record { how = refl; world = refl; steps = refl; inside = h.inside; outside_a = h.outside_a; outside_b = h.outside_b }
    runs_alike zero (ended e) R S w i h =
        record { how = refl; world = refl; steps = refl; inside = h.inside; outside_a = h.outside_a; outside_b = h.outside_b }
    runs_alike (suc k) (ended e) R S w i h =
        record { how = refl; world = refl; steps = refl; inside = h.inside; outside_a = h.outside_a; outside_b = h.outside_b }
    runs_alike (suc k) (works n u fs) R S w i h =
        let (t, w') = M.step u w in
        let d = does_alike t n fs R S i.0 i.1 h in
        let x = does M C t n fs R in
        let y = does M D t (image m.ops n) (map frame fs) S in
        subst (λ (z : Now Data Mind). Alike (run M C k x.0 x.1 w') (run M D k z y.1 w')) (sym d.stand.place)
        (runs_alike k x.0 x.1 y.1 w' d.stand.in_a d.held)
    runs_alike (suc k) (arrives bs c ds fs) R S w i h =
        let R' = write (C.arguments c) ds R in
        let S' = write (D.arguments (image m.blocks c)) ds S in
        let h' : Held R' S' = rw (sym (g.arguments c i.1)) (held_write (C.arguments c) ds R S (λ v j. g.arguments_below c v i.1 j) h) in
        let st = goes_alike (behind bs (C.ops c) ∷ fs) R' S' ((i.0, λ n j. g.ops_below c n i.1 j), i.2) h' in
        let w' = M.arrive (C.block_fields c) w in
        let x = goes_on M C (behind bs (C.ops c) ∷ fs) R' in
        rw (sym (g.block_fields c i.1))
        (subst (λ (z : Now Data Mind). Alike (run M C k x R' w') (run M D k z S' w'))
        (sym st.place ∙ ap (λ (ns : List ℕ). goes_on M D (behind (images m.blocks bs) ns ∷ map frame fs) S') (g.ops c i.1))
        (runs_alike k x R' S' w' st.in_a h'))

    pub held_first : Held R₀ S₀
    held_first = record { inside = agree.inside; outside_a = λ v out. refl; outside_b = λ v out. refl }

    -- from places that correspond
    pub simulated : (k : ℕ) (y x : Now Data Mind) (w : World) → Stand y x → Alike (run M C k x R₀ w) (run M D k y S₀ w)
    simulated k y x w st = rw st.place (runs_alike k x R₀ S₀ w st.in_a held_first)
