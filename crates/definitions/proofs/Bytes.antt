-- Events written as bytes, little-endian, as paper 01's table of kinds and paper 02 have them.
use mathlib.Core.List.{List, [], ◌∷◌, ◌++◌}
use Prim.Native.Nat.{ℕ, ◌/◌, ◌%◌}

abbrev pub two : ℕ → List ℕ
two n = n % 256 ∷ n / 256 ∷ []

abbrev pub four : ℕ → List ℕ
four n = n % 256 ∷ n / 256 % 256 ∷ n / 65_536 % 256 ∷ n / 16_777_216 ∷ []

abbrev pub clock : ℕ → List ℕ
clock time = 1 ∷ four time

abbrev pub session : ℕ → List ℕ
session s = 2 ∷ s ∷ []

abbrev pub setup : ℕ → ℕ → ℕ → ℕ → ℕ → ℕ → List ℕ
setup security lot free first close ipo = 3 ∷ (two security ++ (lot ∷ free ∷ first ∷ (four close ++ four ipo)))

abbrev pub prices : ℕ → ℕ → ℕ → ℕ → ℕ → ℕ → List ℕ
prices security board projected last bid offer =
    4 ∷ (two security ++ (board ∷ (four projected ++ (four last ++ (four bid ++ four offer)))))

abbrev pub order : ℕ → ℕ → ℕ → ℕ → ℕ → ℕ → ℕ → ℕ → ℕ → List ℕ
order customer number security board side type channel price volume =
    5 ∷ (two customer ++ (four number ++ (two security ++ (board ∷ side ∷ type ∷ channel ∷ (four price ++ four volume)))))

abbrev pub cancel : ℕ → ℕ → List ℕ
cancel customer number = 6 ∷ (two customer ++ four number)

abbrev pub match : ℕ → ℕ → ℕ → List ℕ
match customer number volume = 7 ∷ (two customer ++ (four number ++ four volume))

abbrev pub rest : ℕ → ℕ → ℕ → List ℕ
rest customer number price = 8 ∷ (two customer ++ (four number ++ four price))

abbrev pub figures : ℕ → ℕ → ℕ → ℕ → ℕ → List ℕ
figures security dividend subscription old new = 9 ∷ (two security ++ (four dividend ++ (four subscription ++ (two old ++ two new))))
