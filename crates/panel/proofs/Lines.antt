-- A bench that keeps a firing gives each line of its input the right answer.
-- Assumes nothing.
use Rattle.std.proofs.Common.{ℕ, List, length, Some, None, Option, sym, subst, arith}
use Rattle.std.proofs.lemmas.Bool.{ltb-true, ltb-false}
use Rattle.console.specs.Reading.{state_of}
use Rattle.console.specs.States.{answer}
use Rattle.console.proofs.Pushes.{has_read_push}
use Rattle.panel.specs.Firing.{Firing, KeepsFiring}
use Rattle.panel.specs.Input.{bench_logs, AnswersLine, Takes, Ends, Stands, LineAnswered, TakesRightly, EndsRightly}
use Rattle.panel.specs.Replies.{Reply}
use Rattle.panel.specs.declared.bench.Bench.{Bench}
use Rattle.panel.proofs.Rightly.{answered_rightly}

line_answered : (before : Bench) (reply : Reply) (after : Bench) → AnswersLine before reply after
    → (capacity : ℕ) (f : Firing) (bs : List ℕ) → Stands capacity before f bs → LineAnswered capacity f bs reply after
line_answered before reply after line capacity f bs stands =
    let asked = answer (state_of before.line) in
    let right = answered_rightly (bench_logs before) asked reply (bench_logs after) line.reply_is line.logs capacity f stands.keeps in
    (asked, right.0, line.reads bs stands.read, right.2, record { keeps = right.1; read = line.line })

pub takes_rightly : (before : Bench) (byte : ℕ) (reply : Option Reply) (after : Bench) → Takes before byte reply after → TakesRightly before byte reply after
takes_rightly before byte (Some reply) after takes capacity f bs stands = line_answered before reply after takes.1 capacity f bs stands
takes_rightly before byte None after takes capacity f bs stands = record {
  keeps = subst (λ logs. KeepsFiring capacity logs f) (sym takes.1) stands.keeps;
  read = has_read_push before.line after.line bs byte takes.2 stands.read;
}

pub ends_rightly : (before : Bench) (reply : Option Reply) (after : Bench) → Ends before reply after → EndsRightly before reply after
ends_rightly before (Some reply) after ends capacity f bs stands =
    (ltb-true 0 (length bs) (ends.0.1 bs stands.read), line_answered before reply after ends.1 capacity f bs stands)
ends_rightly before None after ends capacity f bs stands =
    let none = ltb-false 0 (length bs) (ends.0.1 bs stands.read) in
    (omega (arith, none), subst (λ bench. Stands capacity bench f bs) (sym ends.1) stands)
