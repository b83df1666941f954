-- Logs that keep a firing get the right answer to each line, and keep the firing after it.
-- Assumes nothing.
use Rattle.std.proofs.Common.{◌≡◌, ℕ, ◌+◌, ◌<◌, ◌≤◌, List, [], ◌∷◌, ◌++◌, map, length, take, Some, None, Ok, Err, Option, Result, sym, refl, ap, subst, ⊎_elim, arith}
use mathlib.Core.List.{map-append}
use Rattle.std.specs.Option.{option_map}
use Rattle.std.proofs.lemmas.List.{length-map, take-map}
use Rattle.std.proofs.lemmas.Bool.{cases_lt}
use Rattle.reading.specs.declared.fault.ProbeFault.{ProbeFault}
use Rattle.reading.specs.declared.probe.Probe.{Probe}
use Rattle.reading.specs.declared.reversed.Reversed.{Reversed}
use Rattle.reading.specs.declared.tenths.Tenths.{Tenths}
use Rattle.reading.specs.Probes.{probe_of, probe_colder}
use Rattle.paths.specs.Cell.{seat}
use Rattle.paths.proofs.Answers.{seat_answers}
use Rattle.firing_log.specs.State.{State}
use Rattle.firing_log.specs.Steps.{appended, cut}
use Rattle.firing_log.specs.declared.fault.LogFault.{LogFault}
use Rattle.firing_log.specs.declared.fault.LogFault.TheVariants.{Full, CutLength}
use Rattle.console.specs.declared.command.Command.{Command}
use Rattle.console.specs.declared.command.Command.TheVariants.{Append, AppendProbe, Cut, Coldest, Hottest, Weakest, Strip}
use Rattle.console.specs.declared.command.Malformed.{Malformed}
use Rattle.console.specs.declared.reply.Found.{Found}
use Rattle.panel.specs.Firing.{Firing, Keeps, KeepsFiring, Adds, AddsProbe, Cuts, ShowsStrip, ShowsRightly, AnswersRightly}
use Rattle.reading.specs.Tenths.{tenths_colder}
use Rattle.panel.specs.Logs.{Logs, turned, tenths_hotter, in_turn, tenths_appended, tenths_cut}
use Rattle.panel.specs.Replies.{Reply, counted, told, malformed, answered, obeyed, probe_answered, strip_answered}
use Rattle.panel.specs.declared.answer.Answer.{Answer}
use Rattle.panel.specs.declared.answer.Answer.TheVariants.{Cold, Hot, Probes}
use Rattle.panel.specs.declared.log_name.LogName.{LogName}
use Rattle.panel.specs.declared.log_name.LogName.TheVariants.{ColdLog, HotLog, ProbeLog}
use Rattle.panel.specs.declared.refusal.Refusal.TheVariants.{Probe as NoProbe}
use Rattle.panel.proofs.Kept.{append_full, append_answer, append_keeps, cut_refused, cut_answer, cut_keeps, asked_tells}
use Rattle.reading.proofs.Lawful.{tenths_orders, probe_orders}
use Rattle.panel.proofs.Orders.{hotter_orders}
use Rattle.panel.proofs.Shows.{shows_strip}

-- ---- one log

-- one reading more: the answer is right, and the log keeps the readings after
module _ {K : Type 0} (capacity : ℕ) (xs : List K) (x : K) (done : Result ℕ LogFault) where
  adds_free : length xs < capacity → done ≡ Ok (length xs + 1) → Adds capacity xs x done (xs ++ (x ∷ []))
  adds_free free is = subst (λ r. Adds capacity xs x r (xs ++ (x ∷ []))) (sym is) (free, refl, refl)

  adds_full : capacity ≤ length xs → done ≡ Err Full → Adds capacity xs x done xs
  adds_full full is = subst (λ r. Adds capacity xs x r xs) (sym is) (full, refl, refl)

module _ {K : Type 0} (xs : List K) (n : ℕ) (done : Result ℕ LogFault) where
  cuts_free : n ≤ length xs → done ≡ Ok n → Cuts xs n done (take n xs)
  cuts_free fewer is = subst (λ r. Cuts xs n r (take n xs)) (sym is) (fewer, refl, refl)

  cuts_refused : length xs < n → done ≡ Err CutLength → Cuts xs n done xs
  cuts_refused more is = subst (λ r. Cuts xs n r xs) (sym is) (more, refl, refl)

-- ---- the two logs of tenths

module _ (logs : Logs) (hot : Result ℕ LogFault × State (Reversed Tenths)) (cold : Result ℕ LogFault × State Tenths) where
  both_answered : (count : ℕ) → hot.0 ≡ Ok count → in_turn logs hot cold ≡ (cold.0, record { cold = cold.1; hot = hot.1; probes = logs.probes })
  both_answered count is = go hot.0 is
    where
      go : (r : Result ℕ LogFault) → r ≡ Ok count → in_turn logs (r, hot.1) cold ≡ (cold.0, record { cold = cold.1; hot = hot.1; probes = logs.probes })
      go (Ok n) e = refl
      go (Err fault) e = cc

  first_refused : (fault : LogFault) → hot ≡ (Err fault, logs.hot) → in_turn logs hot cold ≡ (Err fault, logs)
  first_refused fault is = ap (λ h. in_turn logs h cold) is

-- what comes of a call on both logs of tenths: the answer, and the temperatures after
abbrev ComesOf : ℕ → Firing → (Result ℕ LogFault → List Tenths → Type 0) → Result ℕ LogFault × Logs → Type 0
ComesOf capacity f Gives done = (tenths : List Tenths) × KeepsFiring capacity done.1 (record { tenths = tenths; probes = f.probes }) × Gives done.0 tenths

module _ (capacity : ℕ) (f : Firing) (logs : Logs) (keeps : KeepsFiring capacity logs f) where
  module _ (x : Tenths) where
    append_comes_free : length f.tenths < capacity → ComesOf capacity f (Adds capacity f.tenths x) (tenths_appended logs x)
    append_comes_free free =
        let free_hot : length (map turned f.tenths) < capacity = omega (arith, length-map f.tenths turned) in
        let is = both_answered logs _ (appended tenths_colder seat logs.cold x) _ (append_answer hotter_orders seat seat_answers keeps.hot (turned x) free_hot) in
        subst (ComesOf capacity f (Adds capacity f.tenths x)) (sym is) (
          f.tenths ++ (x ∷ []),
          record {
            cold = append_keeps tenths_orders seat seat_answers keeps.cold x free;
            hot = subst (Keeps tenths_hotter capacity (appended tenths_hotter seat logs.hot (turned x)).1) (sym (map-append turned f.tenths (x ∷ [])))
                (append_keeps hotter_orders seat seat_answers keeps.hot (turned x) free_hot);
            probes = keeps.probes;
          },
          adds_free capacity f.tenths x _ free (append_answer tenths_orders seat seat_answers keeps.cold x free),
        )

    append_comes_full : capacity ≤ length f.tenths → ComesOf capacity f (Adds capacity f.tenths x) (tenths_appended logs x)
    append_comes_full full =
        let full_hot : capacity ≤ length (map turned f.tenths) = omega (arith, length-map f.tenths turned) in
        let is = first_refused logs _ (appended tenths_colder seat logs.cold x) Full (append_full hotter_orders seat seat_answers keeps.hot (turned x) full_hot) in
        subst (ComesOf capacity f (Adds capacity f.tenths x)) (sym is) (f.tenths, keeps, adds_full capacity f.tenths x _ full refl)

    append_comes : ComesOf capacity f (Adds capacity f.tenths x) (tenths_appended logs x)
    append_comes = ⊎_elim append_comes_free append_comes_full (cases_lt (length f.tenths) capacity)

  module _ (n : ℕ) where
    cut_comes_refused : length f.tenths < n → ComesOf capacity f (Cuts f.tenths n) (tenths_cut logs n)
    cut_comes_refused more =
        let more_hot : length (map turned f.tenths) < n = omega (arith, length-map f.tenths turned) in
        let is = first_refused logs _ (cut tenths_colder logs.cold n) CutLength (cut_refused keeps.hot n more_hot) in
        subst (ComesOf capacity f (Cuts f.tenths n)) (sym is) (f.tenths, keeps, cuts_refused f.tenths n _ more refl)

    cut_comes_free : n ≤ length f.tenths → ComesOf capacity f (Cuts f.tenths n) (tenths_cut logs n)
    cut_comes_free fewer =
        let fewer_hot : n ≤ length (map turned f.tenths) = omega (arith, length-map f.tenths turned) in
        let is = both_answered logs _ (cut tenths_colder logs.cold n) _ (cut_answer keeps.hot n fewer_hot) in
        subst (ComesOf capacity f (Cuts f.tenths n)) (sym is) (
          take n f.tenths,
          record {
            cold = cut_keeps keeps.cold n fewer;
            hot = subst (Keeps tenths_hotter capacity (cut tenths_hotter logs.hot n).1) (take-map turned n f.tenths) (cut_keeps keeps.hot n fewer_hot);
            probes = keeps.probes;
          },
          cuts_free f.tenths n _ fewer (cut_answer keeps.cold n fewer),
        )

    cut_comes : ComesOf capacity f (Cuts f.tenths n) (tenths_cut logs n)
    cut_comes = ⊎_elim cut_comes_refused cut_comes_free (cases_lt (length f.tenths) n)

  -- ---- the log of probe readings

  -- what comes of a reading of a probe
  abbrev ProbeComes : Option Reply × Logs → Result Probe ProbeFault → Reply → Type 0
  ProbeComes done probe reply = (g : Firing) × KeepsFiring capacity done.1 g × (AddsProbe capacity f.probes probe reply g.probes × (g.tenths ≡ f.tenths))

  probe_comes : (probe : Result Probe ProbeFault) (reply : Reply) → (probe_answered logs probe).0 ≡ Some reply → ProbeComes (probe_answered logs probe) probe reply
  probe_comes (Ok x) reply is =
      let same : reply ≡ counted ProbeLog (appended probe_colder seat logs.probes x).0 = cc in
      ⊎_elim
      (λ (free : length f.probes < capacity). (
        record { tenths = f.tenths; probes = f.probes ++ (x ∷ []) },
        record { cold = keeps.cold; hot = keeps.hot; probes = append_keeps probe_orders seat seat_answers keeps.probes x free },
        ((_, same, adds_free capacity f.probes x _ free (append_answer probe_orders seat seat_answers keeps.probes x free)), refl),
      ))
      (λ (full : capacity ≤ length f.probes).
      let refusal = append_full probe_orders seat seat_answers keeps.probes x full in (
        f,
        record { cold = keeps.cold; hot = keeps.hot; probes = subst (λ done. Keeps probe_colder capacity done.1 f.probes) (sym refusal) keeps.probes },
        ((_, same, adds_full capacity f.probes x _ full (ap (λ done. done.0) refusal)), refl),
      ))
      (cases_lt (length f.probes) capacity)
  probe_comes (Err fault) reply is = let same : reply ≡ Err (NoProbe fault) = cc in (f, keeps, ((same, refl), refl))

-- ---- every line

-- a reply that holds the answer to a question
in_reply : {K : Type 0} (log : LogName) (into : Found K → Answer) (o : Option (Result (Found K) LogFault)) (reply : Reply)
    → option_map (told log into) o ≡ Some reply → (answer : Result (Found K) LogFault) × (o ≡ Some answer) × (reply ≡ told log into answer)
in_reply log into None reply is = cc
in_reply log into (Some answer) reply is = (answer, refl, (let same : reply ≡ told log into answer = cc in same))

obeyed_rightly : (logs : Logs) (command : Command) (reply : Reply) → (obeyed logs command).0 ≡ Some reply → AnswersRightly logs (Ok command) reply (obeyed logs command).1
obeyed_rightly logs (Append tenths) reply is capacity f keeps =
    let comes = append_comes capacity f logs keeps (record { 0 = tenths }) in
    let same : reply ≡ counted ColdLog (tenths_appended logs (record { 0 = tenths })).0 = cc in
    (record { tenths = comes.0; probes = f.probes }, comes.1, (_, same, comes.2, refl))
obeyed_rightly logs (AppendProbe margin number) reply is capacity f keeps = probe_comes capacity f logs keeps (probe_of margin number) reply is
obeyed_rightly logs (Cut n) reply is capacity f keeps =
    let comes = cut_comes capacity f logs keeps n in
    let same : reply ≡ counted ColdLog (tenths_cut logs n).0 = cc in
    (record { tenths = comes.0; probes = f.probes }, comes.1, (_, same, comes.2, refl))
obeyed_rightly logs (Coldest l r) reply is capacity f keeps =
    let at = in_reply ColdLog Cold _ reply is in
    (f, keeps, (at.0, at.2, asked_tells tenths_orders seat seat_answers keeps.cold l r at.0 at.1, refl))
obeyed_rightly logs (Hottest l r) reply is capacity f keeps =
    let at = in_reply HotLog Hot _ reply is in
    (f, keeps, (at.0, at.2, asked_tells hotter_orders seat seat_answers keeps.hot l r at.0 at.1, refl))
obeyed_rightly logs (Weakest l r) reply is capacity f keeps =
    let at = in_reply ProbeLog Probes _ reply is in
    (f, keeps, (at.0, at.2, asked_tells probe_orders seat seat_answers keeps.probes l r at.0 at.1, refl))
obeyed_rightly logs Strip reply is capacity f keeps =
    let same : reply ≡ strip_answered logs.cold = cc in
    (f, keeps, (logs.cold, keeps.cold, same, refl))

rightly : (logs : Logs) (line : Result Command Malformed) (reply : Reply) → (answered logs line).0 ≡ Some reply → AnswersRightly logs line reply (answered logs line).1
rightly logs (Ok command) reply is capacity f keeps = obeyed_rightly logs command reply is capacity f keeps
rightly logs (Err fault) reply is capacity f keeps =
    let same : reply ≡ malformed = cc in
    (f, keeps, (same, refl))

pub answered_rightly : (logs : Logs) (line : Result Command Malformed) (reply : Reply) (after : Logs)
    → (answered logs line).0 ≡ Some reply → after ≡ (answered logs line).1 → AnswersRightly logs line reply after
answered_rightly logs line reply after is left = subst (AnswersRightly logs line reply) (sym left) (rightly logs line reply is)

pub shown_rightly : (logs : Logs) (line : Result Command Malformed) (reply : Reply) → (answered logs line).0 ≡ Some reply → ShowsRightly logs line reply
shown_rightly logs line reply is capacity f keeps asked =
    let shown : (answered logs (Ok Strip)).0 ≡ Some reply = subst (λ l. (answered logs l).0 ≡ Some reply) asked is in
    let same : reply ≡ strip_answered logs.cold = cc in
    subst (ShowsStrip f.tenths) (sym same) (shows_strip keeps.cold)
