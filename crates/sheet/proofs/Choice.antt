-- A choice by a test, taken apart: each outcome with the test that led to it.
use mathlib.Core.Path.{◌≡◌, refl}
use mathlib.Core.Bool.{Bool, true, false}
use Rattle.sheet.specs.Choice.{pick}

pub pick_elim : {A : Type 0} (P : A → Type 0) (b : Bool) (x y : A) → (b ≡ true → P x) → (b ≡ false → P y) → P (pick b x y)
pick_elim P true x y f g = f refl
pick_elim P false x y f g = g refl
