-- Bytes that begin with a text.
use mathlib.Core.Path.{◌≡◌, refl, sym, ap}
use mathlib.Core.Bool.{Bool, true}
use mathlib.Core.List.{List, [], ◌∷◌, ◌++◌}
use Prim.Native.Nat.{ℕ}
use native.Mathlib.Omega.{arith}
use borrow.Author.Tests.{eq-eqb, ne_eqb, eqb-true}
use lib.Dec.{eqb}
use native.Mathlib.Decide.{ℕ_discrete}
use Rattle.std.specs.List.{starts_with}
use lib.ListN.{length, drop}
use Rattle.sheet.specs.Reading.{starts}
use Rattle.sheet.proofs.Choice.{pick_elim}

-- beginning with a text is what `starts_with` tells
pub starts_is : (s t : List ℕ) → starts s t ≡ starts_with eqb s t
unfolding starts
starts_is s [] = refl
starts_is [] (t ∷ ts) = refl
starts_is (b ∷ bs) (t ∷ ts) = elim (ℕ_discrete b t) [
  | yes e ↦ rw e (simp (eq-eqb t t refl) (starts_is bs ts))
  | no e ↦ simp (ne_eqb b t e, ne_eqb t b (λ y. e (sym y)))
]

pub starts_sound : (s t : List ℕ) → starts s t ≡ true → s ≡ t ++ drop (length t) s
unfolding starts
starts_sound s [] = λ e. refl
starts_sound [] (t ∷ ts) = λ e. absurd (let y : ◌≡◌ {A = ℕ} 0 1 = cc in omega arith)
starts_sound (b ∷ bs) (t ∷ ts) =
    pick_elim (λ (x : Bool). x ≡ true → b ∷ bs ≡ t ∷ (ts ++ drop (length ts) bs)) (eqb b t) _ _
    (λ f e. let i = starts_sound bs ts e in let h = eqb-true b t f in rw h (ap (λ (l : List ℕ). t ∷ l) i))
    (λ f e. absurd (let y : ◌≡◌ {A = ℕ} 0 1 = cc in omega arith))

pub starts_complete : (t rest : List ℕ) → starts (t ++ rest) t ≡ true
unfolding starts
starts_complete [] rest = refl
starts_complete (t ∷ ts) rest = simp (eq-eqb t t refl) (starts_complete ts rest)
