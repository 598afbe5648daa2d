-- What a node says of calls and includes in one step is of those that it was asked for, and so is what waits then.
use Rattle.arj_law_parts.proofs.Words
use Words.{◌≡◌, ◌≢◌, ◌++◌, ◌+◌, ◌==◌, ℕ, zero, suc, Bool, true, false, cond, List, [], ◌∷◌, Option, Some, None, refl, sym, subst, ⊤}
use Words.{AllByRecursion, list_all, and_parts, Header, Kind, Label, Message, ObjectState, Uid, entry, object, again_all, begin_action}
use Words.{end_line, store_of, CallEnd, Goal, Include, Run, Disk, Do, Effect, Pair, Say, Send, held_at, holder_of, worked, tick_outs}
use Words.{Handled, Here, Parts, Ran, Took, Void, first_done, first_queued, handle_all, most_rounds, next_round, ran, ran_handled, rounds}
use Words.{taken, whole, with_coord, Input, Node, Step, acts, copy_line, entry_line, frame_step, handled_step, node_did, parent_of}
use Words.{parts_in, refusal, restart_outs, show_outs, shown, step, step_down, step_of, step_unless, step_up, void_step, taken_took}
use Words.body
use Words.calls
use Words.commit
use Words.input
use Rattle.arj_law_serial.proofs.Terms.{AreLooks, LooksAlone, taken_looks, all_append, SayOf, SaysOf}
use Rattle.arj_law_parts.proofs.moves.{Flat.ran_parts, Rounds.is_look}
use Rattle.arj_law_runs.proofs.kept.Parted.{IsLeft, coord_kept}
use Rattle.arj_law_serial.proofs.joint.FitCoords.{AsksFor, WorksOf, acked_so, acts_so, again_so, begin_so, heard_so, wait_of}
use Rattle.arj_law_serial.proofs.whole.CalledSays.{acts_say, marks_say, message_fine, plain_says, restart_fine, tick_fine}

module _ (P : ℕ → Goal → Type 0) (free : (x n : ℕ) → P x (Include n)) where
  abbrev pub Fine : List Effect → Type 0
  Fine outs = AllByRecursion (SayOf (SaysOf P)) outs

  both : (es fs : List Effect) → Fine es → Fine fs → Fine (es ++ fs)
  both es fs a b = all_append (SayOf (SaysOf P)) es fs a b

  abbrev pub PartsOf : Parts → Type 0
  PartsOf t = WorksOf P t.coord

  -- so it is of a node that is up
  abbrev pub LiveOf : Option Parts → Type 0
  LiveOf None = ⊤
  LiveOf (Some t) = PartsOf t

  -- ---- one message

  end_says : (x : ℕ) (g : Goal) (e : CallEnd) (l : Label) → P x g → SaysOf P (end_line x g e l)
  end_says x (Run o) (calls.Answered a) l its = its
  end_says x (Include s) (calls.Answered a) l its = its
  end_says x g (calls.Included st) l its = free x (store_of g)
  end_says x g (calls.Conflict h m n) l its = tt
  end_says x g (calls.Changed n w) l its = tt
  end_says x g (calls.Lost n b) l its = tt

  looks_fine : (outs : List Effect) → AreLooks outs → Fine outs
  looks_fine [] looks = tt
  looks_fine (Do w ∷ es) looks = (tt, looks_fine es (and_parts (is_look (Do w)) (list_all is_look es) looks).1)
  looks_fine (Say b ∷ es) looks = absurd (cc looks)
  looks_fine (Send to m ∷ es) looks = absurd (cc looks)

  abbrev HandledOf : Handled → Type 0
  HandledOf (Void outs) = Fine outs
  HandledOf (Took v outs) = PartsOf v × Fine outs

  taken_so : (n : ℕ) (d : Disk) (t : Parts) (from : ℕ) (m : Message) → PartsOf t → HandledOf (taken n d t from m)
  taken_so n d t from m all = by (taken n d t from m) refl (taken_looks n d t from m)
    where
      by : (a : Handled) → taken n d t from m ≡ a → LooksAlone a → HandledOf a
      by (Void outs) is looks = looks_fine outs looks
      by (Took v outs) is looks =
          let took = taken_took n d t v from m outs is in (
            subst (IsLeft (WorksOf P)) took (coord_kept (WorksOf P) n d t from all (λ a r. heard_so P from a r d.intents t.coord all)
                (λ u. acked_so P from u d.intents t.coord all) m),
            message_fine (SaysOf P) (plain_says P) n d t v from m outs took (λ a r q s of found now its e ends l. end_says s.x s.goal e l
                (wait_of P t.coord all a.act q s found now)) (λ a r q c of found now. marks_say P q (commit.answered from c r).marks),
          )

  -- ---- messages to itself

  ran_fine : (n : ℕ) (t : Parts) (outs : List Effect) (d : Disk) → Fine outs → Fine (ran n t outs d).outs
  ran_fine n t [] d all = tt
  ran_fine n t (Say b ∷ es) d all = (all.0, ran_fine n t es d all.1)
  ran_fine n t (Do w ∷ es) d all = (tt, ran_fine n t es (worked w d) all.1)
  ran_fine n t (Send to m ∷ es) d all = by (to == n) (ran_fine n t es d all.1)
    where
      by : (b : Bool) → Fine (ran n t es d).outs →
          Fine (cond b (first_queued m (ran n t es d)) (first_done (Send to m) (ran n t es d))).outs
      by true rest = rest
      by false rest = (tt, rest)

  abbrev RanOf : Ran → Type 0
  RanOf r = Fine r.outs × PartsOf (let h = r.here in h.parts)

  ran_so : (n : ℕ) (t : Parts) (outs : List Effect) (d : Disk) → PartsOf t → Fine outs → RanOf (ran n t outs d)
  ran_so n t outs d all fine = (ran_fine n t outs d fine, subst PartsOf (sym (ran_parts n t outs d)) all)

  handled_so : (n : ℕ) (h : Here) (a : Handled) → PartsOf h.parts → HandledOf a → RanOf (ran_handled n h a)
  handled_so n h (Void outs) all its = ran_so n h.parts outs h.disk all its
  handled_so n h (Took v outs) all its = ran_so n v outs h.disk its.0 its.1

  all_so : (n : ℕ) (ms : List Message) (h : Here) → PartsOf h.parts → RanOf (handle_all n ms h)
  all_so n [] h all = (tt, all)
  all_so n (m ∷ ms) h all =
      let r = ran_handled n h (taken n h.disk h.parts n m) in
      let one = handled_so n h (taken n h.disk h.parts n m) all (taken_so n h.disk h.parts n m all) in
      let rest = all_so n ms r.here one.1 in
      (both r.outs (handle_all n ms r.here).outs one.0 rest.0, rest.1)

  next_so : (n : ℕ) (r : Ran) → RanOf r → RanOf (next_round n r)
  next_so n r its = let t = all_so n r.queue r.here its.1 in (both r.outs (handle_all n r.queue r.here).outs its.0 t.0, t.1)

  rounds_so : (n j : ℕ) (r : Ran) → RanOf r → RanOf (rounds n j r)
  rounds_so n zero r its = its
  rounds_so n (suc j) r its = by r.queue (rounds_so n j (next_round n r) (next_so n r its))
    where
      by : (q : List Message) → RanOf (rounds n j (next_round n r)) → RanOf (elim q [ [] ↦ r | m ∷ ms ↦ rounds n j (next_round n r) ])
      by [] rest = its
      by (m ∷ ms) rest = rest

  -- ---- a step

  abbrev pub StepOf : Step → Type 0
  StepOf s = Fine s.outs × Fine s.halting × LiveOf (let n = s.after in n.live)

  did_so : (n : Node) (before : List Effect) (t : Parts) (outs : List Effect) → Fine before → PartsOf t → Fine outs →
      StepOf (node_did n before t outs)
  did_so n before t outs first all fine =
      let r = whole n.number t outs n.disk in
      let its = rounds_so n.number most_rounds (ran n.number t outs n.disk) (ran_so n.number t outs n.disk all fine) in
      (both before r.outs first its.0, both before r.outs first its.0, its.1)

  void_so : (k : ℕ) (n : Node) (outs : List Effect) → Fine outs → LiveOf n.live → StepOf (void_step k n outs)
  void_so k n outs fine live = (both outs (Say (body.Void k) ∷ []) fine (tt, tt), (tt, fine), live)

  frame_so : (k from : ℕ) (n : Node) (t : Parts) (m : Option Message) → PartsOf t → LiveOf n.live → StepOf (frame_step k from n t m)
  frame_so k from n t None all live = void_so k n [] tt live
  frame_so k from n t (Some m) all live = by (taken n.number n.disk t from m) (taken_so n.number n.disk t from m all)
    where
      by : (a : Handled) → HandledOf a → StepOf (handled_step k n a)
      by (Void outs) its = void_so k n outs its live
      by (Took v outs) its = did_so n (Say (body.Got k) ∷ []) v outs (tt, tt) its.0 its.1

  shown_fine : (line : Option ObjectState → List Effect) → ((s : Option ObjectState) → Fine (line s)) →
      (u : Uid) (d : Pair) (o : Option Uid) → Fine (shown line u d o)
  shown_fine line each u d None = (tt, each (held_at u d))
  shown_fine line each u d (Some holder) = tt

  show_fine : (n x : ℕ) (d : Disk) → Fine (show_outs n x d)
  show_fine n x d = both (cond (n == 1) (shown (entry_line x) (entry x) d.names (holder_of (entry x) d.names)) [])
      (shown (copy_line n x) (object x) d.store (holder_of (object x) d.store)) (by (n == 1))
      (shown_fine (copy_line n x) copies (object x) d.store (holder_of (object x) d.store))
    where
      copies : (s : Option ObjectState) → Fine (copy_line n x s)
      copies None = tt
      copies (Some s) = (tt, tt)

      entries : (s : Option ObjectState) → Fine (entry_line x s)
      entries None = tt
      entries (Some s) = (tt, tt)

      by : (b : Bool) → Fine (cond b (shown (entry_line x) (entry x) d.names (holder_of (entry x) d.names)) [])
      by true = shown_fine (entry_line x) entries (entry x) d.names (holder_of (entry x) d.names)
      by false = tt

  act_so : (i : Input) (n : Node) (t : Parts) → AsksFor P i →
      ((l : Label) (how : Kind) (parent : Option Label) → i ≢ input.Begin l how parent) → PartsOf t
      → StepOf (node_did n [] (with_coord t (let d = n.disk in (acts i d.intents t.coord).part)) (let d = n.disk in
      (acts i d.intents t.coord).outs))
  act_so i n t its other all =
      let d = n.disk in
      let r = acts i d.intents t.coord in
      did_so n [] (with_coord t r.part) r.outs tt (acts_so P i d.intents t.coord its other all)
      (acts_say P t.coord (wait_of P t.coord all) i d.intents other)

  up_so : (i : Input) (n : Node) (t : Parts) → AsksFor P i → PartsOf t → LiveOf n.live → StepOf (step_up i n t)
  up_so (input.Frame k from m) n t its all live = frame_so k from n t m all live
  up_so input.Tick n t its all live = let r = again_all t.coord.doings t.coord in
      did_so n [] (with_coord t r.part) (tick_outs n t) tt (again_so P t.coord.doings t.coord all) (tick_fine (SaysOf P) (plain_says P) n t)
  up_so input.Restart n t its all live = (tt, tt, live)
  up_so input.Crash n t its all live = ((tt, tt), (tt, tt), tt)
  up_so (input.Show x) n t its all live = (show_fine n.number x n.disk, show_fine n.number x n.disk, live)
  up_so (input.Begin l how parent) n t its all live = let r = begin_action l how parent (parent_of parent t.coord) t.coord in
      did_so n [] (with_coord t r.part) r.outs tt (begin_so P l how parent (parent_of parent t.coord) t.coord all) (tt, tt)
  up_so (input.Call l x o) n t its all live = act_so (input.Call l x o) n t its (λ m how parent same. cc same) all
  up_so (input.Include l x s) n t its all live = act_so (input.Include l x s) n t its (λ m how parent same. cc same) all
  up_so (input.Commit l) n t its all live = act_so (input.Commit l) n t its (λ m how parent same. cc same) all
  up_so (input.Abort l) n t its all live = act_so (input.Abort l) n t its (λ m how parent same. cc same) all
  up_so (input.GiveUp l) n t its all live = act_so (input.GiveUp l) n t its (λ m how parent same. cc same) all

  down_so : (hd : Header) (i : Input) (n : Node) → LiveOf n.live → StepOf (step_down hd i n)
  down_so hd (input.Frame k from m) n live = void_so k n [] tt live
  down_so hd input.Restart n live =
      let d = n.disk in
      did_so n [] (parts_in n.number (d.inc + 1) d) (restart_outs hd n.number (d.inc + 1) d) tt tt
      (restart_fine (SaysOf P) (plain_says P) hd n.number (d.inc + 1) d)
  down_so hd input.Tick n live = (tt, tt, live)
  down_so hd input.Crash n live = (tt, tt, live)
  down_so hd (input.Show x) n live = (tt, tt, live)
  down_so hd (input.Begin l how parent) n live = (tt, tt, live)
  down_so hd (input.Call l x o) n live = (tt, tt, live)
  down_so hd (input.Include l x s) n live = (tt, tt, live)
  down_so hd (input.Commit l) n live = (tt, tt, live)
  down_so hd (input.Abort l) n live = (tt, tt, live)
  down_so hd (input.GiveUp l) n live = (tt, tt, live)

  pub step_so : (hd : Header) (n : Node) (i : Input) → AsksFor P i → LiveOf n.live → StepOf (step hd n i)
  step_so hd n i its live = by (refusal hd i n)
    where
      up : (o : Option Parts) → LiveOf o → StepOf (step_of hd i n o)
      up None none = down_so hd i n live
      up (Some t) all = up_so i n t its all live

      by : (r : Option ℕ) → StepOf (step_unless hd i n r)
      by (Some c) = ((tt, tt), (tt, tt), live)
      by None = up n.live live
