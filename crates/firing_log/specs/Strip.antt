-- The strip: a log's shape in two bits a reading, as balanced parentheses, behind a count. Our own format.
-- Assumes nothing.
use Rattle.std.specs.Prelude.{ℕ, zero, suc, ◌+◌, ◌/◌, ◌%◌, ◌^◌, Bool, false, cond, List, [], ◌∷◌, ◌++◌, length, drop, replicate, Ok, Err, Result, nat_lt}
use Rattle.reading.specs.Coldest.{places}
use Rattle.paths.specs.Path.{path, moves}
use Rattle.firing_log.specs.State.{State, short, log_of}
use Rattle.firing_log.specs.declared.fault.LogFault.{LogFault}
use Rattle.firing_log.specs.declared.fault.LogFault.TheVariants.{ShortMemory, ShortOutput}

-- the path rule over n places: a 0 for each removal, a 1 for each arrival, and at the end a 0 for each place left
abbrev pub bits_of : (ℕ → ℕ → Bool) → ℕ → List Bool
bits_of o n = moves o n ++ replicate (length (path o n)) false

-- w bits as a number, most significant first; bits that are not there are 0
abbrev pub value_of : ℕ → List Bool → ℕ
value_of zero bits = 0
value_of (suc w) [] = 0
value_of (suc w) (b ∷ bits) = cond b (2 ^ w) 0 + value_of w bits

-- bits in k bytes
abbrev pub packed : ℕ → List Bool → List ℕ
packed zero bits = []
packed (suc k) bits = value_of 8 bits ∷ packed k (drop 8 bits)

-- how many bytes the bits of n places fill, four places to a byte
abbrev pub bit_bytes : ℕ → ℕ
bit_bytes n = (n + 3) / 4

-- a 16-bit count, most significant byte first, and then the bits
unfoldable pub strip : (ℕ → ℕ → Bool) → ℕ → List ℕ
strip o n = (n / 256) ∷ ((n % 256) ∷ packed (bit_bytes n) (bits_of o n))

abbrev pub strip_length : ℕ → ℕ
strip_length n = 2 + bit_bytes n

-- a log's strip
abbrev pub strip_of : {K : Type 0} → (K → K → Bool) → State K → List ℕ
strip_of colder s = strip (places colder (log_of s)) s.count

-- the strip written into output memory: its length, and the bytes behind it as they were
abbrev pub strip_written : {K : Type 0} → (K → K → Bool) → State K → List ℕ → Result ℕ LogFault × List ℕ
strip_written colder s output =
    cond (short s) (Err ShortMemory, output)
    (cond (nat_lt (length output) (strip_length s.count)) (Err ShortOutput, output)
    (Ok (strip_length s.count), strip_of colder s ++ drop (strip_length s.count) output))
