-- A sheet and its listing, byte by byte, and a refusal (manual, section 3.2).
use Rattle.std.specs.Prelude.{◌≡◌, List, [], ◌∷◌, ◌++◌, ℕ, codes}
use Rattle.listing.specs.Listing.{printed}

-- Each text with byte 10 behind it.
abbrev pub lines : List (List ℕ) → List ℕ
lines [] = []
lines (text ∷ texts) = text ++ (10 ∷ lines texts)

-- (x + 1)² - 2x for x from -1/8 to 1/8
unfoldable pub sheet_bytes : List ℕ
sheet_bytes =
    lines (codes "inputs squares steps" ∷
    codes "1 1 6" ∷
    codes "low high" ∷
    codes "-512 512" ∷
    codes "step first second value" ∷
    codes "1 0 0 4096" ∷
    codes "2 1 2 0" ∷
    codes "4 3 3 0" ∷
    codes "1 0 0 8192" ∷
    codes "4 5 1 0" ∷
    codes "3 4 6 0" ∷ [])

-- the last row is x² + 1, and its range is exact
unfoldable pub listing_bytes : List ℕ
listing_bytes =
    lines (codes "row low high own same" ∷
    codes "1 -512 512 512 0" ∷
    codes "2 4096 4096 0 0" ∷
    codes "3 3584 4608 0 0" ∷
    codes "4 3136 5184 0 0" ∷
    codes "5 8192 8192 0 0" ∷
    codes "6 -1024 1024 0 0" ∷
    codes "7 4096 4160 0 0" ∷ [])

abbrev pub ListingPrinted : Type 0
ListingPrinted = printed sheet_bytes ≡ listing_bytes

-- no byte: the first line is missing
unfoldable pub refusal_bytes : List ℕ
refusal_bytes = lines (codes "refused place" ∷ codes "2 1" ∷ [])

abbrev pub RefusalPrinted : Type 0
RefusalPrinted = printed [] ≡ refusal_bytes
