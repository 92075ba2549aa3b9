-- What the code makes of a step before it goes by it: an operation with the indices of the rows that it names. (Not of the specification, whose definitions
-- go by the step's code and fields.)
use Rattle.std.specs.Prelude.{◌≡◌, ℕ, ◌-◌, ◌≤◌, ℤ, pos}
use Rattle.sheet.specs.declared.Step.{Step}
use Rattle.sheet.specs.Limits.{last_binary, last_code}
use Rattle.sheet.specs.Lines.{natural}
use Rattle.evaluation.specs.declared.operation.Operation.{Operation}
use Rattle.evaluation.specs.declared.operation.Operation.TheVariants.{Constant, Sum, Difference, Product, Reciprocal, Root}

-- a field that names a row
pub record Named (z : ℤ) : Type 0 where
  pub is : z ≡ pos (natural z)
  pub some : 1 ≤ natural z

-- a step with a code, whose fields name rows where the code uses them
pub record StepForm (t : Step) : Type 0 where
  pub code_from : 1 ≤ natural t.code
  pub code_to : natural t.code ≤ last_code
  pub first : 2 ≤ natural t.code → Named t.first
  pub second : 2 ≤ natural t.code → natural t.code ≤ last_binary → Named t.second

-- the index of the row that a field names
abbrev pub index_of : ℤ → ℕ
index_of z = natural z - 1

-- an operation on two rows, or on one, is a step's
pub record Binary (code : ℕ) (first second : ℕ) (t : Step) : Type 0 where
  pub by_code : natural t.code ≡ code
  pub first_is : first ≡ index_of t.first
  pub second_is : second ≡ index_of t.second

pub record Unary (code : ℕ) (first : ℕ) (t : Step) : Type 0 where
  pub by_code : natural t.code ≡ code
  pub first_is : first ≡ index_of t.first

pub record Nullary (value : ℤ) (t : Step) : Type 0 where
  pub by_code : natural t.code ≡ 1
  pub value_is : value ≡ t.value

-- "Codes: 1 constant (value, ..), 2 add, 3 subtract second from first, 4 multiply, 5 reciprocal of first"; "Code 6 takes the root of its first row"
abbrev pub Does : Operation → Step → Type 0
Does (Constant v) t = Nullary v t
Does (Sum i j) t = Binary 2 i j t
Does (Difference i j) t = Binary 3 i j t
Does (Product i j) t = Binary 4 i j t
Does (Reciprocal i) t = Unary 5 i t
Does (Root i) t = Unary 6 i t
