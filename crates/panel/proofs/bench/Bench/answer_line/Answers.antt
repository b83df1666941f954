use Rattle.std.proofs.Common.{sym, ap, ◌∙◌, subst}
use Rattle.console.specs.Grammar.{Answers}
use Rattle.panel.specs.Input.{bench_logs}
use Rattle.panel.specs.Replies.{answered}
use Rattle.panel.proofs.bench.Bench.answer_line.Goals as goal

pub returns : goal.returns
returns c =
    let asked = c.finish.ensures.value in
    record {
      reply_is = sym (ap (λ line. (answered (bench_logs c.args.self.now) line).0) asked) ∙ c.answer-answer.ensures.reply;
      logs = c.answer-answer.ensures.after ∙ ap (λ line. (answered (bench_logs c.args.self.now) line).1) asked;
      reads = λ bs read. subst (Answers bs) asked (c.finish.ensures.reads bs read);
      line = c.reset.ensures;
    }
