-- The answered ranges of rows: each is the overlap of the row's own range with its plain one, from the answered ranges before it; so they grow as rows do.
use mathlib.Core.Path.{◌≡◌, refl, sym, ap, ◌∙◌, subst}
use mathlib.Core.Logic.{inl, inr}
use mathlib.Core.Bool.{false}
use mathlib.Core.List.{List, [], ◌∷◌, ◌++◌}
use Prim.Native.Nat.{ℕ, zero, suc, ◌-◌, ◌≤◌, ◌<◌}
use native.Mathlib.Omega.{arith}
use borrow.Author.Tests.{lt-ltb, le-ltb}
use lib.IntN.{ℤ}
use lib.ListN.{length}
use lib.Signed.{◌≤ℤ◌}
use Rattle.integer.proofs.Absolute.{nat_abs_within, above_low_end, below_high_end}
use Rattle.integer.proofs.Order.{≤ℤ_trans}
use Rattle.affine.specs.declared.Range.{Range}
use Rattle.affine.specs.Limits.{span_limit}
use Rattle.affine.specs.Lists.{tabulate}
use Rattle.affine.specs.Steps.{ends_range}
use Rattle.affine.specs.Reciprocal.{zero_in_range}
use Rattle.interval.specs.Interval.{overlap, RangeWithin}
use Rattle.interval.proofs.Holds.{greater_left, lesser_left, OneSide, one_side}
use Rattle.sheet.specs.declared.Schedule.{Schedule}
use Rattle.sheet.specs.Lines.{natural, ends_at, step_at}
use Rattle.sheet.proofs.Passed.{Passed}
use Rattle.sheet.proofs.Passing.{Natural}
use Rattle.evaluation.specs.Ranges.{own_range, own_ranges, named_range, plain_step, plain_range, answered, answered_ranges}
use Rattle.evaluation.proofs.Sequence.{grown, length_grown, get_or_grown}
use Rattle.evaluation.proofs.SoundRows.{row_sound}
use Rattle.evaluation.proofs.WorkLaws.{next_row, rows_up_to}
use Rattle.evaluation.proofs.OwnRanges.{no_range, own_more, own_ordered, own_within}

module _ (c : Schedule) where
  -- one own range more
  answered_more : (told owns : List Range) (own : Range) → answered c told (owns ++ (own ∷ [])) ≡ (let u = answered c told owns in u ++ (overlap own (plain_range c u) ∷ []))
  unfolding answered
  answered_more told [] own = refl
  answered_more told (x ∷ owns) own = answered_more (told ++ (overlap x (plain_range c told) ∷ [])) owns own

  -- ---- of the rows that the work makes: the answered range that comes next, and the first n
  abbrev pub next_told : List Range → Range
  next_told told = let n = length told in overlap (own_range c n (next_row c (rows_up_to c n))) (plain_range c told)

  abbrev pub told_up_to : ℕ → List Range
  told_up_to n = grown next_told n

  pub answered_grown : (n : ℕ) → answered_ranges c (rows_up_to c n) ≡ told_up_to n
  unfolding grown own_ranges tabulate answered
  answered_grown zero = refl
  answered_grown (suc n) =
      let rows = rows_up_to c n in
      let long : length rows ≡ length (told_up_to n) = length_grown (next_row c) n ∙ sym (length_grown next_told n) in
      ap (answered c []) (own_more c rows (next_row c rows))
      ∙ answered_more [] (own_ranges c rows) (own_range c (length rows) (next_row c rows))
      ∙ ap (λ u. u ++ (overlap (own_range c (length rows) (next_row c rows)) (plain_range c u) ∷ [])) (answered_grown n)
      ∙ ap (λ k. told_up_to n ++ (overlap (own_range c k (next_row c rows)) (plain_range c (told_up_to n)) ∷ [])) long
      ∙ ap (λ k. told_up_to n ++ (overlap (own_range c (length (told_up_to n)) (next_row c (rows_up_to c k))) (plain_range c (told_up_to n)) ∷ [])) (sym (length_grown next_told n))

  pub length_told : (n : ℕ) → length (told_up_to n) ≡ n
  length_told n = length_grown next_told n

  -- ---- the row with index n
  abbrev pub own_at : ℕ → Range
  own_at n = own_range c n (next_row c (rows_up_to c n))

  abbrev pub plain_at : ℕ → Range
  plain_at n = plain_range c (told_up_to n)

  abbrev pub told_at : ℕ → Range
  told_at n = next_told (told_up_to n)

  pub told_is : (n : ℕ) → told_at n ≡ overlap (own_at n) (plain_at n)
  told_is n = ap (λ k. overlap (own_at k) (plain_at n)) (length_told n)

  -- that of a row that is named
  pub named_told : (n : ℕ) (z : ℤ) → Natural 1 n z → named_range (told_up_to n) z ≡ told_at (natural z - 1)
  named_told n z h = get_or_grown next_told n no_range (natural z - 1) (omega (arith, h.from, h.to))

  -- the plain range, by the row's line
  pub plain_input : (n : ℕ) → n < natural c.inputs → plain_at n ≡ ends_range (ends_at c n).low (ends_at c n).high
  unfolding plain_range
  plain_input n h = rw (length_told n, lt-ltb n (natural c.inputs) h)

  pub plain_step_lem : (n : ℕ) → natural c.inputs ≤ n
      → let t = step_at c (n - natural c.inputs) in plain_at n ≡ plain_step t (named_range (told_up_to n) t.first) (named_range (told_up_to n) t.second)
  unfolding plain_range
  plain_step_lem n h = rw (length_told n, le-ltb n (natural c.inputs) h)

  -- ---- it is no wider than the own range
  pub told_from : (n : ℕ) → (own_at n).low ≤ℤ (told_at n).low
  told_from n = subst (λ (r : Range). (own_at n).low ≤ℤ r.low) (sym (told_is n)) (greater_left (own_at n).low (plain_at n).low)

  pub told_to : (n : ℕ) → (told_at n).high ≤ℤ (own_at n).high
  told_to n = subst (λ (r : Range). r.high ≤ℤ (own_at n).high) (sym (told_is n)) (lesser_left (own_at n).high (plain_at n).high)

  -- so where it is not empty no end is beyond the span limit
  pub told_within : Passed c → (n : ℕ) → (told_at n).low ≤ℤ (told_at n).high → RangeWithin span_limit (told_at n)
  told_within passed n ordered =
      let w = own_within c passed n (next_row c (rows_up_to c n)) (row_sound c (rows_up_to c n)) in
      let from = ≤ℤ_trans (above_low_end (own_at n).low span_limit w.low_in) (told_from n) in
      let to = ≤ℤ_trans (told_to n) (below_high_end (own_at n).high span_limit w.high_in) in
      record {
        low_in = nat_abs_within (told_at n).low span_limit from (≤ℤ_trans ordered to);
        high_in = nat_abs_within (told_at n).high span_limit (≤ℤ_trans from ordered) to;
      }

  -- ---- and lies on the side of 0 that the own range lies on
  pub told_one_side : Passed c → (n : ℕ) → (told_at n).low ≤ℤ (told_at n).high → zero_in_range (own_at n) ≡ false → OneSide (told_at n)
  told_one_side passed n ordered apart = by_side (one_side (own_at n) apart (own_ordered c passed n (next_row c (rows_up_to c n))))
    where
      by_side : OneSide (own_at n) → OneSide (told_at n)
      by_side (inl (low, high)) = let l = ≤ℤ_trans low (told_from n) in inl (l, ≤ℤ_trans l ordered)
      by_side (inr (low, high)) = let l = ≤ℤ_trans (told_to n) high in inr (≤ℤ_trans ordered l, l)
