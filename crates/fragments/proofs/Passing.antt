-- Steps of a walk done one part after the other, whatever they do. A walk goes through a list of children: the steps of those that came so far
-- are done, so once all came the whole is done, and as long as there is room for the whole there is room for the next. Assumes nothing.
use Rattle.std.proofs.Common.{◌≡◌, ℕ, List, [], ◌∷◌, ◌++◌, sym, ap, ◌∙◌, subst, append_assoc, append-nil}
use Rattle.rules.specs.Fragments.{Step}

-- what steps do between two states, and whether a state has room for steps
pub record StepRelation (A : Type 0) : Type 1 where
  pub Does : List Step → A → A → Type 0
  pub Room : List Step → A → Type 0
  pub none : (a : A) → Does [] a a
  pub both : (xs ys : List Step) {a b c : A} → Does xs a b → Does ys b c → Does (xs ++ ys) a c
  pub first : (xs ys : List Step) {a : A} → Room (xs ++ ys) a → Room xs a
  pub rest : (xs ys : List Step) {a b : A} → Room (xs ++ ys) a → Does xs a b → Room ys b

-- the steps of a list are those of its first child, and then of the others
pub record StepsOf (all : List ℕ → List Step) (one : ℕ → List Step) : Type 0 where
  pub none : all [] ≡ []
  pub some : (n : ℕ) (xs : List ℕ) → all (n ∷ xs) ≡ one n ++ all xs

all_append : {all : List ℕ → List Step} {one : ℕ → List Step} (of : StepsOf all one) (xs ys : List ℕ) → all (xs ++ ys) ≡ all xs ++ all ys
all_append {all} of [] ys = sym (ap (λ (l : List Step). l ++ all ys) of.none)
all_append {all} {one} of (x ∷ xs) ys =
    of.some x (xs ++ ys) ∙ ap (λ (l : List Step). one x ++ l) (all_append of xs ys) ∙ sym (append_assoc (one x) (all xs) (all ys))
    ∙ ap (λ (l : List Step). l ++ all ys) (sym (of.some x xs))

module _ {A : Type 0} (W : StepRelation A) {all : List ℕ → List Step} {one : ℕ → List Step} (of : StepsOf all one) {a : A} where
  pub none_came : W.Does (all []) a a
  none_came = subst (λ (l : List Step). W.Does l a a) (sym of.none) (W.none a)

  module _ (came : List ℕ) {b : A} (p : W.Does (all came) a b) where
    pub came_over : (whole : List ℕ) → came ≡ whole → W.Does (all whole) a b
    came_over whole e = subst (λ (xs : List ℕ). W.Does (all xs) a b) e p

    module _ (n : ℕ) where
      pub came_room : (rest whole : List ℕ) → came ++ n ∷ rest ≡ whole → W.Room (all whole) a → W.Room (one n) b
      came_room rest whole turn r =
          let parted : all whole ≡ all came ++ (one n ++ all rest) =
          ap all (sym turn) ∙ all_append of came (n ∷ rest) ∙ ap (λ (l : List Step). all came ++ l) (of.some n rest) in
          W.first (one n) (all rest) (W.rest (all came) (one n ++ all rest) (subst (λ (l : List Step). W.Room l a) parted r) p)

      pub came_again : {c : A} → W.Does (one n) b c → W.Does (all (came ++ n ∷ [])) a c
      came_again {c} f =
          let last : all (n ∷ []) ≡ one n = of.some n [] ∙ ap (λ (l : List Step). one n ++ l) of.none ∙ append-nil (one n) in
          subst (λ (l : List Step). W.Does l a c) (sym (all_append of came (n ∷ []) ∙ ap (λ (l : List Step). all came ++ l) last)) (W.both (all came) (one n) p f)
