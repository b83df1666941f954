use Rattle.firing_log.specs.Of.{state_of}
use Rattle.deck.specs.Of.{log_at}
use Rattle.deck.specs.declared.fault.Refusal.TheVariants.{OfLog}
use Rattle.deck.proofs.Given.{same_log, asked_place, asked_fault}
use Rattle.deck.proofs.Refused.{passed_up}
use Rattle.deck.proofs.calls.coldest.Goals as goal

pub returns : goal.returns
returns g c =
    let own = c.in_ok-own.ensures in
    let memory = c.args.memory.now in
    asked_place g.K.Reading.colder (log_at c.args.sheet.now memory) (state_of c.in_ok-own.own memory) c.args.from c.args.to c.args.place.now c.args.reading.now
    (same_log c.args.sheet.now c.in_ok-own.own memory own.capacity_is own.count_is) own.given c.in_ok-found.found c.in_ok-found.ensures

pub returns-in_err-found : goal.returns-in_err-found
returns-in_err-found g c =
    let own = c.in_ok-own.ensures in
    let memory = c.args.memory.now in
    let fault = c.in_err-found.field-0.0 in
    asked_fault g.K.Reading.colder (log_at c.args.sheet.now memory) (state_of c.in_ok-own.own memory) c.args.from c.args.to c.args.place.now c.args.reading.now
    (same_log c.args.sheet.now c.in_ok-own.own memory own.capacity_is own.count_is) own.given fault c.in_err-found.ensures
    (passed_up c.from_residual-in_err-found.result (OfLog fault) c.from_residual-in_err-found.ensures.1)
