-- Runs, event by event: what each event writes behind those before it makes the journal, with what a limit writes at its end.
use Rattle.arj_law_parts.proofs.Words
use Words.{◌≡◌, ◌∙◌, ◌+◌, ◌==◌, ℕ, Bool, true, false, cond, List, [], ◌∷◌, ◌++◌, length, map, take, suc, refl, sym, ap, subst, arith}
use Words.{nat_tests}
use Words.{append-nil, AllByRecursion, Body, Event, Line, World, Move, all_moved, first_reason, moved, reasons, run_event, run_unless}
use Words.body
use Rattle.arj_law_parts.proofs.Terms.which
use Rattle.arj_model.specs.Follows.{AreEnding, Runs}
use Rattle.arj_model.specs.Past.{Along, Past, at_start, block, next}
use Rattle.arj_start.specs.Start.{Start}

-- the event of a move
abbrev pub event_of : Move → Event
event_of m = let e = m.asked in e.event

-- the events that these moves run from a world on
abbrev pub ran : List Move → World → List Event
ran [] w = []
ran (m ∷ ms) w = cond w.over [] (cond ((moved m w).event == w.event) [] (event_of m ∷ ran ms (moved m w)))

-- they are the first ones
pub ran_first : (ms : List Move) (w : World) → take (length (ran ms w)) (map event_of ms) ≡ ran ms w
ran_first [] w = refl
ran_first (m ∷ ms) w = by w.over ((moved m w).event == w.event) (ran_first ms (moved m w))
  where
    by : (a b : Bool) → take (length (ran ms (moved m w))) (map event_of ms) ≡ ran ms (moved m w) →
        take (length (cond a [] (cond b [] (event_of m ∷ ran ms (moved m w))))) (event_of m ∷ map event_of ms)
        ≡ cond a [] (cond b [] (event_of m ∷ ran ms (moved m w)))
    by true b rest = refl
    by false true rest = refl
    by false false rest = ap (λ (es : List Event). event_of m ∷ es) rest

-- a run that is over stays as it is
over_moved : (m : Move) (w : World) → w.over ≡ true → ((moved m w).lines ≡ w.lines) × ((moved m w).event ≡ w.event) ×
    ((moved m w).over ≡ true)
over_moved m w is =
    let v = record w { arms = m.falls } in
    let same : run_event m.asked v ≡ v = λ i. cond (is i) v (run_unless (event_of m) (let e = m.asked in e.arm) v
    (first_reason (reasons (event_of m) v))) in
    (ap (λ (x : World). x.lines) same, ap (λ (x : World). x.event) same, ap (λ (x : World). x.over) same ∙ is)

pub over_stays : (ms : List Move) (w : World) → w.over ≡ true → ((all_moved ms w).lines ≡ w.lines) × ((all_moved ms w).event ≡ w.event)
over_stays [] w is = (refl, refl)
over_stays (m ∷ ms) w is = let o = over_moved m w is in let rest = over_stays ms (moved m w) o.2 in (rest.0 ∙ o.0, rest.1 ∙ o.1)

-- What an event leaves: it was run, and wrote lines of which this holds; or no label was left for it.
pub data Outcome (Step : Past → Event → List Body → Type 0) (Inv : Past → World → Type 0) (m : Move) (p : Past) (w : World) : Type 0 where
  Went : (bodies : List Body) → Step p (event_of m) bodies → Inv (next p (event_of m) bodies) (moved m w) → Outcome Step Inv m p w
  Ended : (moved m w).over ≡ true → (moved m w).event ≡ w.event → (moved m w).lines ≡ w.lines ++ block w.event
      (body.Limit which.Labels ∷ []) →
      Outcome Step Inv m p w

-- from a world on
record EndsSo (Step : Past → Event → List Body → Type 0) (p : Past) (es : List Event) (v : World) : Type 0 where
  pub end : Past
  pub ending : List Line
  pub along : Along Step p es end
  pub lines : v.lines ≡ end.lines ++ ending
  pub last : AreEnding end.count ending
  pub count : v.event ≡ end.count
  pub total : end.count ≡ p.count + length es

module _ (Step : Past → Event → List Body → Type 0) (Inv : Past → World → Type 0) (Form : Move → Type 0)
    (lines_are : (p : Past) (w : World) → Inv p w → p.lines ≡ w.lines) (count_is : (p : Past) (w : World) → Inv p w → p.count ≡ w.event)
    (goes : (m : Move) (p : Past) (w : World) → Form m → Inv p w → w.over ≡ false → Outcome Step Inv m p w) where
  -- nothing more is run
  stops : (p : Past) (w v : World) (ending : List Line) → Inv p w → v.lines ≡ w.lines ++ ending → v.event ≡ w.event → AreEnding w.event
      ending →
      EndsSo Step p [] v
  stops p w v ending inv lines event last = record {
    end = p;
    ending = ending;
    along = refl;
    lines = lines ∙ ap (λ ls. ls ++ ending) (sym (lines_are p w inv));
    last = subst (λ n. AreEnding n ending) (sym (count_is p w inv)) last;
    count = event ∙ sym (count_is p w inv);
    total = none p.count;
  }
    where
      none : (n : ℕ) → n ≡ n + 0
      none n = omega arith

  moves_end : (ms : List Move) (p : Past) (w : World) → AllByRecursion Form ms → Inv p w → EndsSo Step p (ran ms w) (all_moved ms w)
  moves_end [] p w forms inv = stops p w w [] inv (sym (append-nil w.lines)) refl tt
  moves_end (m ∷ ms) p w forms inv = by w.over refl (λ q after. moves_end ms q (moved m w) forms.1 after)
    where
      went : ((q : Past) → Inv q (moved m w) → EndsSo Step q (ran ms (moved m w)) (all_moved ms (moved m w))) →
          (o : Outcome Step Inv m p w) → EndsSo Step p (cond ((moved m w).event == w.event) [] (event_of m ∷ ran ms (moved m w)))
          (all_moved ms (moved m w))
      went rest (Went bodies step after) =
          let r = rest (next p (event_of m) bodies) after in
          subst (λ b. EndsSo Step p (cond b [] (event_of m ∷ ran ms (moved m w))) (all_moved ms (moved m w)))
          (sym (other (moved m w).event w.event (sym (count_is (next p (event_of m) bodies) (moved m w) after) ∙ ap (λ n. n + 1)
          (count_is p w inv))))
          (record {
            end = r.end;
            ending = r.ending;
            along = (bodies, step, r.along);
            lines = r.lines;
            last = r.last;
            count = r.count;
            total = r.total ∙ more p.count (length (ran ms (moved m w)));
          })
        where
          other : (a b : ℕ) → a ≡ b + 1 → (a == b) ≡ false
          other a b is = grind (arith, nat_tests, is)

          more : (a b : ℕ) → (a + 1) + b ≡ a + suc b
          more a b = omega arith
      went rest (Ended over event lines) =
          let o = over_stays ms (moved m w) over in
          subst (λ b. EndsSo Step p (cond b [] (event_of m ∷ ran ms (moved m w))) (all_moved ms (moved m w)))
          (sym (same (moved m w).event w.event event))
          (stops p w (all_moved ms (moved m w)) (block w.event (body.Limit which.Labels ∷ [])) inv (o.0 ∙ lines) (o.1 ∙ event) (refl, refl))
        where
          same : (a b : ℕ) → a ≡ b → (a == b) ≡ true
          same a b is = grind (arith, nat_tests, is)

      by : (b : Bool) → w.over ≡ b → ((q : Past) → Inv q (moved m w) → EndsSo Step q (ran ms (moved m w)) (all_moved ms (moved m w))) →
          EndsSo Step p (cond b [] (cond ((moved m w).event == w.event) [] (event_of m ∷ ran ms (moved m w)))) (all_moved ms (moved m w))
      by true is rest =
          let o = over_moved m w is in
          let more = over_stays ms (moved m w) o.2 in
          stops p w (all_moved ms (moved m w)) [] inv (more.0 ∙ o.0 ∙ sym (append-nil w.lines)) (more.1 ∙ o.1) tt
      by false is rest = went rest (goes m p w forms.0 inv is)

  -- a run of these moves from where it begins
  pub runs_along : (st : Start) (ms : List Move) (w : World) → AllByRecursion Form ms → Inv (at_start st) w →
      Runs Step st (take (all_moved ms w).event (map event_of ms)) (all_moved ms w).lines
  runs_along st ms w forms inv =
      let r = moves_end ms (at_start st) w forms inv in
      let long : (all_moved ms w).event ≡ length (ran ms w) = r.count ∙ r.total ∙ first (length (ran ms w)) in
      let es : take (all_moved ms w).event (map event_of ms) ≡ ran ms w = ap (λ n. take n (map event_of ms)) long ∙ ran_first ms w in
      subst (λ es. Runs Step st es (all_moved ms w).lines) (sym es)
      (r.end, r.ending, r.along, r.lines, subst (λ n. AreEnding n r.ending) (r.total ∙ first (length (ran ms w))) r.last)
    where
      first : (n : ℕ) → 0 + n ≡ n
      first n = omega arith
