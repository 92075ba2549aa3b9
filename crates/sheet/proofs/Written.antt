-- Writing one text behind another is writing the two joined; what was written can be taken from where it stands.
use mathlib.Core.Path.{◌≡◌, refl, sym, ◌∙◌, subst}
use mathlib.Core.List.{List, [], ◌∷◌, ◌++◌, append_assoc}
use Prim.Native.Nat.{ℕ, suc, ◌+◌, ◌-◌, ◌≤◌}
use native.Mathlib.Nat.{add-zero, add-suc, suc-add}
use native.Mathlib.Omega.{arith}
use lib.ListN.{length, set, take, drop, length-append}
use lib.Seq.{sets, sets-eq, drop-drop, length-take-le, take-append_seam, drop-append_seam}
use borrow.Rule.Slice.PartMut.{put_mid}
use Rattle.sheet.specs.Wrote.{Wrote}

pub sets_append : {A : Type 0} (xs ys l : List A) (i : ℕ) → sets (sets l i xs) (i + length xs) ys ≡ sets l i (xs ++ ys)
sets_append [] ys l i = rw add-zero
sets_append (x ∷ xs) ys l i = rw (add-suc, ← suc-add) (sets_append xs ys (set l i x) (suc i))

pub sets_snoc : (xs l : List ℕ) (i b : ℕ) → set (sets l i xs) (i + length xs) b ≡ sets l i (xs ++ (b ∷ []))
sets_snoc xs l i b = sets_append xs (b ∷ []) l i

pub wrote_none : (a : List ℕ) (i : ℕ) → Wrote a a i i []
wrote_none a i = record { ends = sym (add-zero i); is = refl }

pub wrote_then : {a b c xs ys : List ℕ} {i j k : ℕ} → Wrote a b i j xs → Wrote b c j k ys → Wrote a c i k (xs ++ ys)
wrote_then {a} {b} {c} {xs} {ys} {i} {j} {k} w v = record {
  ends = rw length-append (omega (arith, w.ends, v.ends));
  is = v.is ∙ rw (w.is, w.ends) (sets_append xs ys a i);
}

-- bytes put into the middle of others
pub wrote_mid : (before t mid : List ℕ) (at : ℕ) → mid ≡ t → at + length t ≤ length before → Wrote before (put_mid at (at + length t - at) before mid) at (at + length t) t
wrote_mid before t mid at e h =
    let k : at + length t - at ≡ length t = omega arith in
    record { ends = refl; is = rw (e, k, drop-drop (length t) at before) (sym (sets-eq t before at h ∙ append_assoc (take at before) t (drop (at + length t) before))) }

-- what was written stands there
pub wrote_there : {before after xs : List ℕ} {at end : ℕ} → Wrote before after at end xs → at + length xs ≤ length before → drop at (take end after) ≡ xs
wrote_there {before} {after} {xs} {at} {end} w h =
    let front : List ℕ = take at before ++ xs in
    let rest : List ℕ = drop (at + length xs) before in
    let l : length (take at before) ≡ at = length-take-le at before (omega arith) in
    let m : length front ≡ at + length xs = rw (length-append (take at before) xs, l) in
    let t : take (at + length xs) (front ++ rest) ≡ front = subst (λ k. take k (front ++ rest) ≡ front) m (take-append_seam front rest) in
    rw (w.ends, w.is, sets-eq xs before at h, t) (subst (λ k. drop k front ≡ xs) l (drop-append_seam (take at before) xs))
