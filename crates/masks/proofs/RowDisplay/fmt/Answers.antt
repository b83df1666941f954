use Rattle.std.proofs.Common.{◌≡◌, ℕ, ◌+◌, ◌<◌, true, false, List, [], ◌∷◌, ◌++◌, get_or, take, Some, decimal, sym, refl, ap, ◌∙◌, arith}
use Rattle.std.specs.Fmt.{◌++?◌, styled_digits_output}
use Rattle.std.specs.List.{flat_map}
use Rattle.std.proofs.Output.{has_written_append, has_written_of_eq}
use Rattle.std.proofs.lemmas.Fmt.{hex_byte}
use Rattle.std.proofs.lemmas.List.{flat_map_more, take_more}
use Rattle.masks.specs.Lines.{cell_text, line_text}
use Rattle.masks.proofs.RowDisplay.fmt.Goals as goal

pub loop-cell-preserved : goal.loop-cell-preserved
loop-cell-preserved g c plain =
    let cells : List ℕ = c.args.self.now.cells.now in
    let i = c.loop-cell.cell-index in
    let cell = get_or cells i 0 in
    let small : cell < 256 = omega arith in
    let before = c.loop-cell.invariant plain in
    let shown : Some (32 ∷ []) ++? styled_digits_output c.in_radix.result c.laid_out.result ≡ Some (cell_text cell) =
    rw (c.laid_out.ensures, c.in_radix.ensures) (ap (λ bs. Some (32 ∷ bs)) (hex_byte false cell small)) in
    let wrote = rw shown at c.in_ok-write-2.ensures.writes in
    let more : line_text c.args.self.now.number (take i cells) ++ cell_text cell ≡ line_text c.args.self.now.number (take (i + 1) cells) =
    flat_map_more cell_text (decimal c.args.self.now.number) (take i cells) cell
    ∙ ap (λ xs. decimal c.args.self.now.number ++ flat_map cell_text xs) (sym (take_more cells i 0 (omega arith))) in
    has_written_of_eq _ _ _ _ _ more (has_written_append _ _ _ _ _ _ before (wrote before.plain (refl {a = true})))
