-- The steps of a node against the lock table, and what a restart gives back.
use Rattle.std.proofs.Common.{◌≡◌, ℕ, List, [], ◌∷◌, ◌++◌, Bool, true, false, cond, refl, sym, ◌∙◌, ap, subst, map, Option, Some, None}
use Rattle.std.proofs.Common.{◌==◌, ⊎_elim, arith}
use Rattle.std.specs.Prelude.{if◌then◌else◌}
use Rattle.std.specs.List.{AllByRecursion, flat_map}
use Rattle.std.specs.Ordering.{nat_cmp, is_eq}
use Rattle.arj_protocol.specs.Words.{Uid, Message, Row, ObjectState, Part, Header, uid_eq, object, entry, last_uid}
use Rattle.arj_protocol.specs.Words.body
use Rattle.arj_protocol.specs.Words.part
use Rattle.arj_protocol.specs.Order.{at_number}
use Rattle.arj_protocol.specs.Effect.{Effect, Say, Pair, Did, held_at, holder_of}
use Rattle.arj_protocol.specs.Named.{Named, unnamed}
use Rattle.arj_protocol.specs.Confirm.{recovered_naming, recovered_lines, named_back, rows_back, back_lines, pending_of}
use Rattle.arj_protocol.specs.Coord.{Coord}
use Rattle.arj_protocol.specs.Asking.{again_all}
use Rattle.arj_protocol.specs.Node.{Parts, Handled, Void, Took, taken, holders, query_about, with_coord, whole}
use Rattle.arj_protocol.specs.Step.{Node, Input, Step, step, step_up, step_of, step_unless, refusal, frame_step, handled_step, void_step}
use Rattle.arj_protocol.specs.Step.{node_did, coord_did, tick_step, show_step, show_outs, show_entry, shown, entry_line, copy_line}
use Rattle.arj_protocol.specs.Step.{only_says, acts, tolds_again}
use Rattle.arj_protocol.specs.Step as input
use Rattle.arj_protocol.specs.Says.{AreAll, is_coord_effect}
use Rattle.arj_protocol.specs.Laws.{Holders, naming_rows, rows_in_named, rows_by, rows_after}
use Rattle.arj_protocol.specs.Follow.{TablesFollow, FitsStep, FitsFrame, FitsHandled, FitsDid, StepFollows, AreEntries, alone}
use Rattle.arj_protocol.proofs.RowSteps.{same_number, after_both, one_or_two}
use Rattle.arj_protocol.proofs.PartSays.{all_both}
use Rattle.arj_protocol.proofs.CoordSays.{acts_own, again_own, tolds_again_own, map_own}
use Rattle.arj_protocol.proofs.Follow.{follows_on, coord_follows, void_follows, taken_follows, whole_follows}

module _ (h : Holders) (x : ℕ) (n : Node) (t : Parts) (up : n.live ≡ Some t) where
  abbrev After : Step → Type 0
  After s = StepFollows h n.number x t s.outs s.after.live

  -- a step that leaves the node as it is, and says nothing of locks
  still : (s : Step) → s.after.live ≡ n.live → ((p : Part) (k : ℕ) (o : Uid) (rows : List Row) → rows_after h k p o s.outs rows ≡ rows) →
      After s
  still s same quiet = subst (StepFollows h n.number x t s.outs) (sym (same ∙ up)) (void_follows h n.number x t s.outs quiet)

  -- effects of the coordinator, with all messages to itself
  did_follows : (c : Coord) (outs : List Effect) → AreAll is_coord_effect outs → FitsDid h n t c outs →
      After (node_did n [] (with_coord t c) outs)
  did_follows c outs own fit = whole_follows h n.number x t (with_coord t c) outs n.disk (coord_follows h n.number x t c outs own) fit

  act_follows : (d : Did Coord) → AreAll is_coord_effect d.outs → FitsDid h n t d.part d.outs → After (coord_did n t d)
  act_follows d own fit = did_follows d.part d.outs own fit

  tick_follows : FitsStep h n t input.Tick → After (tick_step n t)
  tick_follows fit =
      let d = again_all t.coord.doings t.coord in
      let more = tolds_again t.coord.telling in
      let asked = map query_about (holders n.disk t) in
      did_follows d.part (d.outs ++ more ++ asked)
      (all_both is_coord_effect (d.outs ++ more) asked (all_both is_coord_effect d.outs more (again_own t.coord.doings t.coord) (tolds_again_own t.coord.telling)) (map_own query_about (holders n.disk t) (λ u. refl)))
      fit

  -- ---- frames

  void_still : (k : ℕ) (outs : List Effect) → ((p : Part) (m : ℕ) (o : Uid) (rows : List Row) → rows_after h m p o outs rows ≡ rows) →
      After (void_step k n outs)
  void_still k outs quiet =
      still (void_step k n outs) refl (λ p m o rows. after_both h m p o outs (Say (body.Void k) ∷ []) rows ∙ quiet p m o rows)

  abbrev Handles : Handled → Type 0
  Handles (Void outs) = (p : Part) (k : ℕ) (o : Uid) (rows : List Row) → rows_after h k p o outs rows ≡ rows
  Handles (Took v outs) = TablesFollow h n.number x t outs v

  handled_follows : (k from : ℕ) (m : Message) → FitsFrame h n t from (Some m) → After (handled_step k n (taken n.number n.disk t from m))
  handled_follows k from m fit = by (taken n.number n.disk t from m) (taken_follows h n.number x n.disk t from m fit.0) fit.1
    where
      by : (a : Handled) → Handles a → FitsHandled h n.number n.disk a → After (handled_step k n a)
      by (Void outs) quiet fits = void_still k outs quiet
      by (Took v outs) follows fits =
          let w = whole n.number v outs n.disk in
          follows_on h n.number x t t w.here.parts (Say (body.Got k) ∷ []) w.outs (void_follows h n.number x t (Say (body.Got k) ∷ []) (λ p m o rows. refl)) (whole_follows h n.number x t v outs n.disk follows fits)

  frame_follows : (k from : ℕ) (m : Option Message) → FitsFrame h n t from m → After (frame_step k from n t m)
  frame_follows k from None fit = void_still k [] (λ p m o rows. refl)
  frame_follows k from (Some m) fit = handled_follows k from m fit

  -- ---- show

  shown_quiet : (line : Option ObjectState → List Effect) →
      ((s : Option ObjectState) (p : Part) (k : ℕ) (o : Uid) (rows : List Row) → rows_after h k p o (line s) rows ≡ rows) →
      (u : Uid) (d : Pair) (p : Part) (k : ℕ) (o : Uid) (rows : List Row) → rows_after h k p o (shown line u d (holder_of u d)) rows ≡ rows
  shown_quiet line quiet u d p k o rows = by (holder_of u d)
    where
      by : (q : Option Uid) → rows_after h k p o (shown line u d q) rows ≡ rows
      by None = quiet (held_at u d) p k o rows
      by (Some holder) = refl

  entry_quiet : (y : ℕ) (s : Option ObjectState) (p : Part) (k : ℕ) (o : Uid) (rows : List Row) →
      rows_after h k p o (entry_line y s) rows ≡ rows
  entry_quiet y None p k o rows = refl
  entry_quiet y (Some s) p k o rows = refl

  copy_quiet : (m y : ℕ) (s : Option ObjectState) (p : Part) (k : ℕ) (o : Uid) (rows : List Row) →
      rows_after h k p o (copy_line m y s) rows ≡ rows
  copy_quiet m y None p k o rows = refl
  copy_quiet m y (Some s) p k o rows = refl

  show_entry_quiet : (y : ℕ) (p : Part) (k : ℕ) (o : Uid) (rows : List Row) →
      rows_after h k p o (show_entry n.number y n.disk.names) rows ≡ rows
  show_entry_quiet y p k o rows = by (n.number == 1)
    where
      by : (b : Bool) →
          rows_after h k p o (if b then shown (entry_line y) (entry y) n.disk.names (holder_of (entry y) n.disk.names) else []) rows ≡ rows
      by true = shown_quiet (entry_line y) (entry_quiet y) (entry y) n.disk.names p k o rows
      by false = refl

  show_follows : (y : ℕ) → After (show_step y n)
  show_follows y = still (show_step y n) refl (λ p k o rows.
      after_both h k p o (show_entry n.number y n.disk.names) (shown (copy_line n.number y) (object y) n.disk.store (holder_of (object y) n.disk.store)) rows
      ∙ shown_quiet (copy_line n.number y) (copy_quiet n.number y) (object y) n.disk.store p k o _
      ∙ show_entry_quiet y p k o rows)

  -- ---- a step

  up_follows : (i : Input) → FitsStep h n t i → After (step_up i n t)
  up_follows (input.Frame k from m) fit = frame_follows k from m fit
  up_follows input.Tick fit = tick_follows fit
  up_follows input.Restart fit = still (input.does_nothing n) refl (λ p k o rows. refl)
  up_follows input.Crash fit = tt
  up_follows (input.Show y) fit = show_follows y
  up_follows (input.Begin l k parent) fit =
      act_follows (acts (input.Begin l k parent) n.disk.intents t.coord) (acts_own (input.Begin l k parent) n.disk.intents t.coord) fit
  up_follows (input.Call l y o) fit =
      act_follows (acts (input.Call l y o) n.disk.intents t.coord) (acts_own (input.Call l y o) n.disk.intents t.coord) fit
  up_follows (input.Include l y s) fit =
      act_follows (acts (input.Include l y s) n.disk.intents t.coord) (acts_own (input.Include l y s) n.disk.intents t.coord) fit
  up_follows (input.Commit l) fit =
      act_follows (acts (input.Commit l) n.disk.intents t.coord) (acts_own (input.Commit l) n.disk.intents t.coord) fit
  up_follows (input.Abort l) fit =
      act_follows (acts (input.Abort l) n.disk.intents t.coord) (acts_own (input.Abort l) n.disk.intents t.coord) fit
  up_follows (input.GiveUp l) fit =
      act_follows (acts (input.GiveUp l) n.disk.intents t.coord) (acts_own (input.GiveUp l) n.disk.intents t.coord) fit

  pub step_follows : (hd : Header) (i : Input) → FitsStep h n t i → StepFollows h n.number x t (step hd n i).outs (step hd n i).after.live
  step_follows hd i fit = by (refusal hd i n)
    where
      of_up : (o : Option Parts) → o ≡ Some t → After (step_of hd i n o)
      of_up None is = absurd (cc is)
      of_up (Some v) is =
          let same : t ≡ v = cc is in
          subst (λ w. After (step_up i n w)) same (up_follows i fit)

      by : (r : Option ℕ) → After (step_unless hd i n r)
      by (Some c) = still (only_says n (body.Refused c)) refl (λ p k o rows. refl)
      by None = of_up n.live up

-- ---- restart

module _ (x : ℕ) where
  line_rows : Row → List Row → List Row
  line_rows r rows = rows_by alone 1 part.Naming (entry x) (body.Granted 1 (last_uid r.holder) r.object r.mode) rows

  -- the lines of another object
  others_lines : (u : Uid) (held : ObjectState) (p : Option (Uid × ObjectState)) (rows : List Row) → uid_eq u (entry x) ≡ false →
      rows_after alone 1 part.Naming (entry x) (back_lines (unnamed (rows_back u held p))) rows ≡ rows
  others_lines u held None rows apart = refl
  others_lines u held (Some p) rows apart = rw apart refl

  -- the lines of this object
  own_lines : (u : Uid) (held : ObjectState) (p : Option (Uid × ObjectState)) → u ≡ entry x →
      rows_after alone 1 part.Naming (entry x) (back_lines (unnamed (rows_back u held p))) [] ≡ rows_back u held p
  own_lines u held None is = refl
  own_lines u held (Some p) is =
      subst (λ w. rows_after alone 1 part.Naming (entry x) (back_lines (unnamed (rows_back w held (Some p)))) [] ≡ rows_back w held (Some p)) (sym is) (rw (same_number x) refl)

  entry_apart : (u : Uid) → u ≡ entry u.num → (u.num == x) ≡ false → uid_eq u (entry x) ≡ false
  entry_apart u is other = ap (λ w. uid_eq w (entry x)) is ∙ other

  -- none of the others says a line of this object
  rest_lines : (d : Pair) (es : List (Uid × ObjectState)) (rows : List Row) → AreEntries es →
      AllByRecursion (λ (f : Uid × ObjectState). (f.0.num == x) ≡ false) es
      → rows_after alone 1 part.Naming (entry x) (flat_map (λ (e : ℕ × Named). back_lines e.1) (map (named_back d) es)) rows ≡ rows
  rest_lines d [] rows entries other = refl
  rest_lines d (e ∷ es) rows entries other =
      let lines = back_lines (unnamed (rows_back e.0 e.1 (pending_of e.0 d.pend))) in
      after_both alone 1 part.Naming (entry x) lines (flat_map (λ (q : ℕ × Named). back_lines q.1) (map (named_back d) es)) rows
      ∙ rest_lines d es (rows_after alone 1 part.Naming (entry x) lines rows) entries.2 other.1
      ∙ others_lines e.0 e.1 (pending_of e.0 d.pend) rows (entry_apart e.0 entries.0 other.0)

  all_lines : (d : Pair) (es : List (Uid × ObjectState)) → AreEntries es
      → rows_in_named (at_number x (map (named_back d) es)) ≡ rows_after alone 1 part.Naming (entry x) (flat_map (λ (e : ℕ × Named). back_lines e.1) (map (named_back d) es)) []
  all_lines d [] entries = refl
  all_lines d (e ∷ es) entries =
      ⊎_elim {C = rows_in_named (at_number x (map (named_back d) (e ∷ es))) ≡ rows_after alone 1 part.Naming (entry x) (lines ++ more) []} one (two (all_lines d es entries.2)) (one_or_two e.0.num x)
    where
      lines : List Effect
      lines = back_lines (unnamed (rows_back e.0 e.1 (pending_of e.0 d.pend)))

      more : List Effect
      more = flat_map (λ (q : ℕ × Named). back_lines q.1) (map (named_back d) es)

      others_apart : e.0.num ≡ x → AllByRecursion (λ (f : Uid × ObjectState). (f.0.num == x) ≡ false) es
      others_apart is = subst (λ k. AllByRecursion (λ (f : Uid × ObjectState). (f.0.num == k) ≡ false) es) is entries.1

      found : Bool → List Row
      found b = rows_in_named (cond b (Some (unnamed (rows_back e.0 e.1 (pending_of e.0 d.pend)))) (at_number x (map (named_back d) es)))

      itself : (k : ℕ) → is_eq (nat_cmp k k) ≡ true
      itself k = grind arith

      one : e.0.num ≡ x →
          rows_in_named (at_number x (map (named_back d) (e ∷ es))) ≡ rows_after alone 1 part.Naming (entry x) (lines ++ more) []
      one is =
          let here : is_eq (nat_cmp x e.0.num) ≡ true = subst (λ k. is_eq (nat_cmp x k) ≡ true) (sym is) (itself x) in
          let named : e.0 ≡ entry x = entries.0 ∙ ap entry is in
          ap found here
          ∙ sym (own_lines e.0 e.1 (pending_of e.0 d.pend) named)
          ∙ sym (rest_lines d es (rows_after alone 1 part.Naming (entry x) lines []) entries.2 (others_apart is))
          ∙ sym (after_both alone 1 part.Naming (entry x) lines more [])

      two : rows_in_named (at_number x (map (named_back d) es)) ≡ rows_after alone 1 part.Naming (entry x) more [] →
          (is_eq (nat_cmp x e.0.num) ≡ false) × ((e.0.num == x) ≡ false) →
          rows_in_named (at_number x (map (named_back d) (e ∷ es))) ≡ rows_after alone 1 part.Naming (entry x) (lines ++ more) []
      two ih apart =
          ap found apart.0
          ∙ ih
          ∙ ap (rows_after alone 1 part.Naming (entry x) more) (sym (others_lines e.0 e.1 (pending_of e.0 d.pend) [] (entry_apart e.0 entries.0 apart.1)))
          ∙ sym (after_both alone 1 part.Naming (entry x) lines more [])

  pub restart_follows : (inc : ℕ) (d : Pair) → AreEntries d.held →
      naming_rows x (recovered_naming inc d) ≡ rows_after alone 1 part.Naming (entry x) (recovered_lines (recovered_naming inc d)) []
  restart_follows inc d entries = all_lines d d.held entries
