-- Paper 01, "Prices and the ladder": the table of steps, row by row, in satang.
use Rattle.std.specs.Prelude.{List, [], ◌∷◌, ℕ}
use Rattle.ladder.specs.declared.Band.{Band}

abbrev pub row : ℕ → ℕ → ℕ → Band
row from step first = record { from = from; step = step; first = first }

-- from, step, first position
abbrev pub lowest : Band
lowest = row 1 1 1

abbrev pub higher : List Band
higher =
    row 200 2 200
    ∷ row 500 5 350
    ∷ row 1_000 10 450
    ∷ row 2_500 25 600
    ∷ row 10_000 50 900
    ∷ row 20_000 100 1100
    ∷ row 40_000 200 1300
    ∷ []

-- "Prices are whole satang (0.01 baht), 1 to 10,000,000." "the last is 51,100"
abbrev pub first_price : ℕ
first_price = 1

abbrev pub last_price : ℕ
last_price = 10_000_000

abbrev pub positions : ℕ
positions = 51_100
