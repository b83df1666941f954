-- Known firings: worked examples that the definitions have to meet.
-- Assumes nothing.
use Rattle.std.specs.Prelude.{◌≡◌, ℕ, ◌+◌, List, [], ◌∷◌, map, length, pos, Ok, Err, Result}
use Rattle.std.specs.Result.{result_map_both}
use Rattle.reading.specs.Coldest.{places}
use Rattle.reading.specs.Tenths.{tenths_colder}
use Rattle.reading.specs.declared.tenths.Tenths.{Tenths}
use Rattle.paths.specs.Ballot.{ballot}
use Rattle.paths.specs.Cell.{cell, seat}
use Rattle.paths.specs.Number.{shape}
use Rattle.shape.specs.Outcomes.{seat_answer}
use Rattle.firing_log.specs.Strip.{strip}
use Rattle.strip.specs.Outcomes.{opening_answer, strip_code}
use Rattle.strip.specs.Replay.{replay_readings}

-- readings by their tenths
abbrev pub readings : List ℕ → List Tenths
readings ns = map (λ n. record { 0 = pos n }) ns

abbrev pub shape_of : List ℕ → ℕ
shape_of ns = shape tenths_colder (readings ns)

abbrev pub strip_of_log : List ℕ → List ℕ
strip_of_log ns = strip (places tenths_colder (readings ns)) (length ns)

-- what opening answers, with a refusal's number
abbrev pub opening_code : List ℕ → Result (Unit {0}) ℕ
opening_code bytes = result_map_both (λ x. x) strip_code (opening_answer bytes)

pub record KnownFirings : Type 0 where
  pub ballot_7_8 : ballot 7 8 ≡ 1430
  pub ballot_6_8 : ballot 6 8 ≡ 1001
  pub ballot_5_3 : ballot 5 3 ≡ 0
  pub equal : shape_of (2300 ∷ 2300 ∷ 2300 ∷ 2300 ∷ 2300 ∷ 2300 ∷ 2300 ∷ 2300 ∷ []) ≡ 0
  pub falling : shape_of (8 ∷ 7 ∷ 6 ∷ 5 ∷ 4 ∷ 3 ∷ 2 ∷ 1 ∷ []) ≡ 1429
  pub mixed : shape_of (5 ∷ 3 ∷ 4 ∷ 1 ∷ 9 ∷ 2 ∷ 6 ∷ 8 ∷ []) ≡ 1001 + 165 + 90 + 14
  pub mixed_number : shape_of (5 ∷ 3 ∷ 4 ∷ 1 ∷ 9 ∷ 2 ∷ 6 ∷ 8 ∷ []) ≡ 1270
  pub over_1_to_5 : seat_answer seat 1270 1 5 ≡ Ok 3
  pub over_4_to_7 : seat_answer seat 1270 4 7 ≡ Ok 5
  -- hexadecimal 17
  pub mask_at_7 : cell 1270 7 ≡ 23
  pub begun : shape_of (2 ∷ 1 ∷ []) ≡ 1001
  pub going_on : shape_of (2 ∷ 1 ∷ 3 ∷ 4 ∷ 5 ∷ 6 ∷ 7 ∷ 8 ∷ []) ≡ 1001
  -- hexadecimal 0004b4
  pub four : strip_of_log (2315 ∷ 2290 ∷ 2302 ∷ 2290 ∷ []) ≡ 0 ∷ 4 ∷ 180 ∷ []
  pub four_replayed : replay_readings (0 ∷ 4 ∷ 180 ∷ []) ≡ readings (32768 ∷ 32767 ∷ 65534 ∷ 65533 ∷ [])
  pub empty : strip_of_log [] ≡ 0 ∷ 0 ∷ []
  -- hexadecimal 000140, 0001a0 and 0001
  pub unbalanced : opening_code (0 ∷ 1 ∷ 64 ∷ []) ≡ Err 21
  pub wrong_filling : opening_code (0 ∷ 1 ∷ 160 ∷ []) ≡ Err 22
  pub wrong_length : opening_code (0 ∷ 1 ∷ []) ≡ Err 20
