-- One crash more.
use Rattle.std.proofs.Common.{◌≡◌, inl, inr, ℕ, ◌+◌, ◌≤◌, ◌<◌, zero, suc, List, [], ◌∷◌, ◌++◌, length, length-append, append_assoc, false, get_or, take, drop, refl, sym, ◌∙◌, ap, subst, arith}
use Rattle.std.specs.Prelude.{Bool, true, if◌then◌else◌}
use Rattle.std.proofs.lemmas.List.{append-nil, map-append, take-append-drop, take_more}
use Rattle.arj_journal.specs.declared.body.Line.{Line}
use Rattle.arj_journal.specs.declared.event.Event.{Event}
use Rattle.arj_journal.specs.declared.event.Event.TheVariants as event
use Rattle.arj_journal.specs.declared.header.Header.{Header}
use Rattle.arj_loop.specs.Limits.{EndsAtFrames}
use Rattle.arj_loop.specs.declared.machine.Machine.{Ghosts}
use Rattle.arj_model.specs.Refusals.{is_down}
use Rattle.arj_start.specs.Start.{fresh}
use Rattle.arj_saving.specs.Stops.{ChangedBy, ComesSoFar, HasCrashed, MeetsLimit, Moment, RunsMore, crashes, moment, no_labels, up_node, up_nodes}

few_up : (b : Bool) (n : ℕ) → length (if b then [] else n ∷ []) ≤ 1
few_up true n = omega arith
few_up false n = omega arith

-- no more nodes are up than there are
pub few_nodes : (lines : List Line) (n : ℕ) → length (up_nodes lines n) ≤ n
few_nodes lines zero = omega arith
few_nodes lines (suc n) =
    let ih = few_nodes lines n in
    let one = few_up (is_down fresh lines (suc n)) (suc n) in
    omega (arith, ih, one, length-append (up_nodes lines n) (up_node lines (suc n)))

-- one of a list, and those before and behind it
pub cut_at : (nodes : List ℕ) (i d : ℕ) → i < length nodes → nodes ≡ take i nodes ++ ((get_or nodes i d ∷ []) ++ drop (i + 1) nodes)
cut_at nodes i d less =
    sym (take-append-drop (i + 1) nodes) ∙ ap (λ xs. xs ++ drop (i + 1) nodes) (take_more nodes i d less)
    ∙ append_assoc (take i nodes) (get_or nodes i d ∷ []) (drop (i + 1) nodes)

module _ {D M : Type 0} (m : Ghosts M D) where
  -- none yet
  pub none_crashed : (old : Moment D M) → m.over old.machine ≡ false → HasCrashed m [] old old
  none_crashed old going = record {
    ran = λ first header events ran. subst (λ es. m.ran first header es old.rack old.journal old.machine) (sym (append-nil events)) ran;
    steps = omega arith;
    going = going;
  }

  -- these events behind those
  runs_then : (done more : List ℕ) (old now next : Moment D M) → RunsMore m (crashes done) old now → RunsMore m (crashes more) now next →
      RunsMore m (crashes (done ++ more)) old next
  runs_then done more old now next a b first header events ran =
      subst (λ es. m.ran first header es next.rack next.journal next.machine)
      (append_assoc events (crashes done) (crashes more) ∙ ap (λ es. events ++ es) (sym (map-append (λ n. event.Crash n) done more)))
      (b first header (events ++ crashes done) (a first header events ran))

  pub crashed_then : (done more : List ℕ) (old now next : Moment D M) → HasCrashed m done old now → HasCrashed m more now next →
      HasCrashed m (done ++ more) old next
  crashed_then done more old now next a b = record {
    ran = runs_then done more old now next a.ran b.ran;
    steps = omega (arith, a.steps, b.steps, length-append done more);
    going = b.going;
  }

  -- so many are crashed, and these are left
  cut_then : (nodes before done rest after some : List ℕ) → nodes ≡ before ++ (some ++ after) → some ≡ done ++ rest →
      nodes ≡ (before ++ done) ++ (rest ++ after)
  cut_then nodes before done rest after some whole cut =
      whole ∙ ap (λ xs. before ++ (xs ++ after)) cut ∙ ap (λ xs. before ++ xs) (append_assoc done rest after)
      ∙ sym (append_assoc before done (rest ++ after))

  pub limit_then : (nodes before some after : List ℕ) (old now next : Moment D M) → nodes ≡ before ++ (some ++ after) →
      HasCrashed m before old now → MeetsLimit m some now next → MeetsLimit m nodes old next
  limit_then nodes before some after old now next whole a l = record {
    done = before ++ l.done;
    rest = l.rest ++ after;
    cut = cut_then nodes before l.done l.rest after some whole l.cut;
    lines = l.lines;
    ran = runs_then before l.done old now (moment next.rack next.machine l.lines) a.ran l.ran;
    ends = λ first header events ran. l.ends first header (events ++ crashes before) (a.ran first header events ran);
  }

  changed_then : (header : Header) (rest after : List ℕ) (before now : List D) → ChangedBy m header rest before now →
      ChangedBy m header (rest ++ after) before now
  changed_then header [] [] before now same = same
  changed_then header [] (n ∷ after) before now same = inl same
  changed_then header (n ∷ rest) after before now changed = changed

  pub comes_then : (nodes before some after : List ℕ) (old now : Moment D M) (rack : List D) → nodes ≡ before ++ (some ++ after) →
      HasCrashed m before old now → ComesSoFar m some now rack → ComesSoFar m nodes old rack
  comes_then nodes before some after old now rack whole a s = record {
    done = before ++ s.done;
    rest = s.rest ++ after;
    cut = cut_then nodes before s.done s.rest after some whole s.cut;
    now = s.now;
    ran = runs_then before s.done old now s.now a.ran s.ran;
    since = λ first header events ran.
        let n = s.now in
        changed_then header s.rest after n.rack rack (s.since first header (events ++ crashes before) (a.ran first header events ran));
  }

  -- ---- one crash

  -- what ran some events runs this one behind them
  abbrev pub RunsOne : Event → Moment D M → Moment D M → Type 0
  RunsOne e old now =
      (first : List D) (header : Header) (events : List Event) → m.ran first header events old.rack old.journal old.machine →
      m.ran first header (events ++ e ∷ []) now.rack now.journal now.machine

  runs_crash : (n : ℕ) (e : Event) (old now : Moment D M) → e ≡ event.Crash n → RunsOne e old now → RunsMore m (crashes (n ∷ [])) old now
  runs_crash n e old now is runs first header events ran =
      subst (λ x. m.ran first header (events ++ x ∷ []) now.rack now.journal now.machine) is (runs first header events ran)

  runs_none : (old now : Moment D M) →
      ((first : List D) (header : Header) (events : List Event) → m.ran first header events old.rack old.journal old.machine →
      m.ran first header events now.rack now.journal now.machine) → RunsMore m (crashes []) old now
  runs_none old now runs first header events ran =
      subst (λ es. m.ran first header es now.rack now.journal now.machine) (sym (append-nil events)) (runs first header events ran)

  pub crashed_one : (n : ℕ) (e : Event) (old now : Moment D M) → e ≡ event.Crash n → RunsOne e old now →
      m.steps now.machine ≡ m.steps old.machine + 1 → m.over now.machine ≡ false → HasCrashed m (n ∷ []) old now
  crashed_one n e old now is runs steps going = record { ran = runs_crash n e old now is runs; steps = steps; going = going }

  pub limit_frames : (n : ℕ) (e : Event) (old now : Moment D M) → e ≡ event.Crash n → RunsOne e old now → m.over now.machine ≡ true →
      EndsAtFrames now.journal → MeetsLimit m (n ∷ []) old now
  limit_frames n e old now is runs over last = record {
    done = n ∷ [];
    rest = [];
    cut = refl;
    lines = now.journal;
    ran = runs_crash n e old now is runs;
    ends = λ first header events ran. inl (over, last, refl);
  }

  pub limit_labels : (n : ℕ) (e : Event) (old now : Moment D M) (journal : List Line) →
      ((first : List D) (header : Header) (events : List Event) → m.ran first header events old.rack old.journal old.machine →
      m.ran first header events now.rack now.journal now.machine × m.is_full header e now.rack now.machine) → m.over now.machine ≡ false →
      journal ≡ now.journal ++ no_labels (m.steps now.machine) ∷ [] → MeetsLimit m (n ∷ []) old (moment now.rack now.machine journal)
  limit_labels n e old now journal runs going last = record {
    done = [];
    rest = n ∷ [];
    cut = refl;
    lines = now.journal;
    ran = runs_none old now (λ first header events ran. (runs first header events ran).0);
    ends = λ first header events ran. inr (going, (e, (runs first header events ran).1), last);
  }

  -- memory was wanting in a crash, or behind it
  pub wants_more : (n : ℕ) (e : Event) (now : Moment D M) (rack : List D) → e ≡ event.Crash n →
      ((first : List D) (header : Header) (events : List Event) → m.ran first header events now.rack now.journal now.machine →
      m.moved header (e ∷ []) now.rack rack) → ComesSoFar m (n ∷ []) now rack
  wants_more n e now rack is moved = record {
    done = [];
    rest = n ∷ [];
    cut = refl;
    now = now;
    ran = λ first header events ran. subst (λ es. m.ran first header es now.rack now.journal now.machine) (sym (append-nil events)) ran;
    since = λ first header events ran. inr (subst (λ x. m.moved header (x ∷ []) now.rack rack) is (moved first header events ran));
  }

  -- and behind all of them
  pub wants_all : (nodes : List ℕ) (old now : Moment D M) → HasCrashed m nodes old now → ComesSoFar m nodes old now.rack
  wants_all nodes old now a = record {
    done = nodes;
    rest = [];
    cut = sym (append-nil nodes);
    now = now;
    ran = a.ran;
    since = λ first header events ran. refl;
  }
