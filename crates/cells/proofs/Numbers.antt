-- Cell numbers: below the number of cells, and no two addresses alike.
-- Assumes nothing.
use mathlib.Core.Path.{◌≡◌, refl}
use mathlib.Core.Bool.{Bool, true, false}
use Prim.Native.Nat.{ℕ, suc, ◌+◌, ◌*◌, ◌<◌, ◌≤◌}
use native.Mathlib.Nat.{mul-le-mul_left, mul-le-mul_right, suc-mul}
use native.Mathlib.Omega.{arith}
use lib.Dec.{leb}
use borrow.Author.Tests.{leb-true, leb-false}
use Rattle.registry.specs.Registry.{max_meters}
use Rattle.registry.specs.Entry.{max_days}
use Rattle.cells.specs.Number.{channels, cell_count, cell_number}
use Rattle.cells.specs.Address.{Sizes, Among}

pub count_small : (meters days : ℕ) → Sizes meters days → meters * channels * days ≤ max_meters * channels * max_days
count_small meters days s =
    let a : meters * channels * days ≤ meters * channels * max_days = mul-le-mul_left (meters * channels) s.short in
    omega (arith, s.few)

-- a place in a row of `size` places, `row` rows before it
row_below : (row rows size d : ℕ) → row < rows → d < size → row * size + d < rows * size
row_below row rows size d h k =
    let a : suc row * size ≤ rows * size = mul-le-mul_right size h in
    let b : suc row * size ≡ row * size + size = suc-mul row size in
    omega arith

pub below : (meters days m c d : ℕ) → Among meters days m c d → (m * channels + c) * days + d < meters * channels * days
below meters days m c d a = row_below (m * channels + c) (meters * channels) days d (omega (arith, a.meter, a.channel)) a.day

pub number-below : (meters days m c d : ℕ) → Among meters days m c d → cell_number meters days m c d < cell_count meters days
unfolding cell_number cell_count
number-below meters days m c d a = below meters days m c d a

-- the rows of two equal places are one
rows-order : (a b size d e : ℕ) → e < size → a * size + d ≡ b * size + e → a ≤ b
rows-order a b size d e h q = go (leb a b) refl
  where
    go : (t : Bool) → leb a b ≡ t → a ≤ b
    go true x = leb-true a b x
    go false x =
        let l : b < a = leb-false a b x in
        let r : suc b * size ≤ a * size = mul-le-mul_right size l in
        let s : suc b * size ≡ b * size + size = suc-mul b size in
        absurd (omega arith)

same_row : (a b size d e : ℕ) → d < size → e < size → a * size + d ≡ b * size + e → a ≡ b
same_row a b size d e h k q =
    let x : a ≤ b = rows-order a b size d e k q in
    let y : b ≤ a = rows-order b a size e d h (omega arith) in
    omega arith

-- equal numbers are of one meter, channel and day
pub number_injective : (meters days m c d n e f : ℕ) → Among meters days m c d → Among meters days n e f
    → cell_number meters days m c d ≡ cell_number meters days n e f → (m ≡ n) × (c ≡ e) × (d ≡ f)
unfolding cell_number
number_injective meters days m c d n e f a b q =
    let row : m * channels + c ≡ n * channels + e = same_row (m * channels + c) (n * channels + e) days d f a.day b.day q in
    (omega (arith, a.channel, b.channel), omega (arith, a.channel, b.channel), last (m * channels + c) (n * channels + e) row q)
  where
    last : (x y : ℕ) → x ≡ y → x * days + d ≡ y * days + f → d ≡ f
    last x y r p = omega (arith, rw r at p)
