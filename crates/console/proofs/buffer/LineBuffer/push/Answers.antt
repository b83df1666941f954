use Rattle.std.proofs.Common.{◌≡◌, ℕ, ◌+◌, ◌<◌, ◌≤◌, List, [], ◌∷◌, ◌++◌, length, take, set, sym, ap, ◌∙◌, arith, length-take-le}
use Rattle.std.proofs.lemmas.List.{take_all, take-append-le, take_more_set, length-append}
use Rattle.console.proofs.buffer.LineBuffer.push.Goals as goal

-- a byte that has room joins the end
joined : (text : List ℕ) (len byte room : ℕ) → length text ≡ room → len < room → take (len + 1) (set text len byte) ≡ take room (take len text ++ (byte ∷ []))
joined text len byte room long lt =
    take_more_set text len byte (omega arith)
    ∙ sym (take_all room (take len text ++ (byte ∷ [])) (omega (arith, length-append (take len text) (byte ∷ []), length-take-le len text (omega arith))))

-- a byte that has none is let go
let_go : (text : List ℕ) (len byte room : ℕ) → length text ≡ room → room ≤ len → take len text ≡ take room (take len text ++ (byte ∷ []))
let_go text len byte room long le =
    let whole : take len text ≡ text = take_all len text (omega arith) in
    let all : length (take len text) ≡ room = ap length whole ∙ long in
    sym (take-append-le room (take len text) (byte ∷ []) (omega arith) ∙ take_all room (take len text) (omega arith))

pub returns-then-len-lt-TEXT : goal.returns-then-len-lt-TEXT
returns-then-len-lt-TEXT c = joined c.args.self.now.text c.args.self.now.len c.args.byte 16389 (omega arith) (omega arith)

pub returns-else-len-lt-TEXT : goal.returns-else-len-lt-TEXT
returns-else-len-lt-TEXT c = let_go c.args.self.now.text c.args.self.now.len c.args.byte 16389 (omega arith) (omega arith)
