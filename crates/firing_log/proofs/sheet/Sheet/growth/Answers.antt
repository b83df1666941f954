use Rattle.std.proofs.Common.{◌≡◌, ℕ, ◌+◌, ◌*◌, ◌/◌, ◌%◌, ◌<◌, false, List, set, Ok, Err, sym, ap, ◌∙◌, subst, arith}
use Rattle.std.proofs.lemmas.Result.{err_from_is_err_and}
use Rattle.firing_log.specs.Of.{state_of, state_behind, SameBelow, row_in}
use Rattle.firing_log.specs.State.{State, short}
use Rattle.firing_log.specs.Steps.{appended, entry_at, grown, written}
use Rattle.firing_log.proofs.Lists.{nth_set_other}
use Rattle.firing_log.proofs.Short.{append_refused, append_whole}
use Rattle.firing_log.proofs.sheet.Sheet.growth.Goals as goal

-- the readings below the count are as they were
same_front : {K : Type 0} (xs : List K) (n b : ℕ) (x : K) → 8 * b < n + 1 → SameBelow (8 * b) xs (set xs n x)
same_front xs n b x h i l = nth_set_other xs n i x (λ e. omega arith)

pub returns-in_err-row-clause-grows : goal.returns-in_err-row-clause-grows
returns-in_err-row-clause-grows g c =
    let colder = g.K.Reading.colder in
    let seats = g.S.Answerer.seats c.args.answerer.now in
    let x = c.args.reading in
    let s = state_behind c.in_ok-log.log in
    let is : s ≡ state_of c.args.self.now c.args.memory.now = c.in_ok-log.ensures.0 in
    let long : short s ≡ false = ap short is ∙ c.in_ok-log.ensures.1 in
    let fills : s.count % 8 ≡ 7 = ap (λ (t : State g.row.K.Denot). t.count % 8) is ∙ c.if-self-ne7.false in
    let room : s.count ≡ s.capacity → ⊥ = λ e. c.if-self.false (sym (ap (λ (t : State g.row.K.Denot). t.count) is) ∙ e ∙ ap (λ (t : State g.row.K.Denot). t.capacity) is) in
    let rowed = c.in_err-row.ensures (set s.readings s.count x) c.first_with.ensures.stands (same_front s.readings s.count (s.count / 8) x (omega arith)) in
    let p = err_from_is_err_and c.from_residual-in_err-row.result c.from_residual-in_err-row.ensures.1 in
    let done = append_refused colder seats s x c.number_with-number.result long room c.number_with-number.ensures.number fills
    c.first_with.result.place c.first_with.ensures.place c.in_err-row.field-0.0 rowed in
    rw (p.1, p.2) (subst (λ (t : State g.row.K.Denot). appended colder seats t x ≡ (Err c.in_err-row.field-0.0, t)) is done)

pub returns-clause-grows : goal.returns-clause-grows
returns-clause-grows g c =
    let colder = g.K.Reading.colder in
    let seats = g.S.Answerer.seats c.args.answerer.now in
    let x = c.args.reading in
    let s = state_behind c.in_ok-log.log in
    let is : s ≡ state_of c.args.self.now c.args.memory.now = c.in_ok-log.ensures.0 in
    let long : short s ≡ false = ap short is ∙ c.in_ok-log.ensures.1 in
    let fills : s.count % 8 ≡ 7 = ap (λ (t : State g.row.K.Denot). t.count % 8) is ∙ c.if-self-ne7.false in
    let room : s.count ≡ s.capacity → ⊥ = λ e. c.if-self.false (sym (ap (λ (t : State g.row.K.Denot). t.count) is) ∙ e ∙ ap (λ (t : State g.row.K.Denot). t.capacity) is) in
    let rowed = c.in_ok-row.ensures (set s.readings s.count x) c.first_with.ensures.stands (same_front s.readings s.count (s.count / 8) x (omega arith)) in
    let done = append_whole colder seats s x c.number_with-number.result long room c.number_with-number.ensures.number fills
    c.first_with.result.place c.first_with.ensures.place c.in_ok-row.row rowed in
    subst (λ (t : State g.row.K.Denot). appended colder seats t x
    ≡ (Ok (t.count + 1), grown colder t x c.number_with-number.result (written t.entries (entry_at (t.count / 8) 0) (row_in (t.count / 8) c.in_ok-row.row)))) is done
