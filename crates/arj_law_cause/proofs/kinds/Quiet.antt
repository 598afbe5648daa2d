-- The row of quiesces: a line that says that all is quiet stands where every node is up, no frame is open, and no action waits.
use Rattle.arj_law.proofs.Reading.{read_none}
use Rattle.arj_law_parts.proofs.Words
use Words.{◌≡◌, ◌∙◌, ◌+◌, ◌≤◌, ◌&&◌, ◌||◌, not, ℕ, zero, suc, Bool, true, false, cond, if◌then◌else◌, List, [], ◌∷◌, ◌++◌, length, map}
use Words.{refl, sym}
use Words.{ap, subst, arith, append-nil, append_assoc, map-append, filter-append, nat_le, nat_lt, nat_tests, Option, Some, None}
use Words.{is_some, option_map}
use Words.{◌⊎◌, ⊎_elim, AllByRecursion, In, inl, inr, Arm, Body, Event, Frame, Header, Line, Move, Node, Parts, World, at_place}
use Words.{counted, first_reason}
use Words.{giving, happens, lacks_labels, limited, moved, no_labels, node_numbers, lowest_from, is_open_frame, settle, tick_all, is_idle}
use Words.{run_unless, reasons, world_from, IsFormed, Start, list_all, and_parts, slice_get, quiesce}
use Words.body
use Words.event
use Rattle.arj_law_parts.proofs.Terms.{says}
use Rattle.arj_law_parts.proofs.Terms.which
use Rattle.arj_law_parts.proofs.moves.{Events.move_with, Firsts.first_stands}
use Rattle.arj_law_parts.proofs.steps.Settled.{settled}
use Rattle.arj_law_parts.specs.moves.Moments.{History, no_history}
use Rattle.arj_law_parts.specs.moves.With.{HoldsWith, past_event}
use Rattle.arj_law_parts.specs.steps.Spoken.{is_of_parts}
use Rattle.arj_law_runs.proofs.Terms.{Act, acts, act_in}
use Rattle.arj_law_runs.proofs.follow.Along.{Ended, Outcome, Went, event_of, runs_along}
use Rattle.arj_law_runs.proofs.follow.Frames as frames
use Rattle.arj_law_runs.proofs.follow.Refusing as refusing
use Rattle.arj_law_runs.proofs.follow.Telling.{down_on, opens}
use Rattle.arj_law_runs.proofs.follow.Walking.{behind_all}
use Rattle.arj_law_runs.proofs.journal.Owners.{acts_more}
use Rattle.arj_law_runs.proofs.addresses.Lists.{all_append}
use Rattle.arj_law_runs.specs.follow.Frames.{FramesStep, are_so}
use Rattle.arj_law_lock_view.proofs.asking.Tied.{tied_keep}
use Rattle.arj_model.specs.Actions.{ended_of, halt_of, has_end, is_halted, is_over}
use Rattle.arj_model.specs.Calls.{committing_of}
use Rattle.arj_model.specs.CauseNodes.{is_quiesce, is_still, past_of}
use Rattle.arj_model.specs.CausePends.{has_some}
use Rattle.arj_model.specs.CauseSpans.{Here, here_at, nodes_of}
use Rattle.arj_model.specs.Past.{Asked, Past, at_start, block, next}
use Rattle.arj_model.specs.Refusals as model
use Rattle.arj_model.specs.Refusals.{answers_to, asks_by, down_from, holds_of, is_answer_to, is_down, is_node, is_waiting, last_asked}
use Rattle.arj_model.specs.Refusals.{open_from, open_step}
use Rattle.arj_model.specs.Refusals.{was_called}
use Rattle.arj_promise.specs.Runs.{HeaderFits, IsStoppedInForm}
use Rattle.arj_protocol.specs.Step.{is_idle_with}
use Rattle.arj_law_cause.proofs.kinds.Accepted.{IsToldBy, told_on}
use Rattle.arj_law_cause.proofs.kinds.Filling as filling
use Rattle.arj_law_cause.proofs.kinds.Filling.{IsFilled, IsFree}
use Rattle.arj_law_cause.proofs.kinds.Waiting.{Tied, nobody_waits}
use Rattle.arj_law_cause.proofs.kinds.Walks.{behind_lines, none_rows, so_both}
use Rattle.arj_law_cause.specs.kinds.Kinds.{is_quiet}
use Rattle.arj_law_cause.specs.kinds.Rows.{RowHolds, RowStep, row}
use Rattle.std.proofs.lemmas.List.{append_cancel_left}
use Rattle.std.specs.List.{range_with_len}

-- lines of the kind, wherever they come
abbrev kind : Here → Body → Bool
kind h = is_quiet

abbrev free : Body → Bool
free b = not (is_quiet b)

parts_free : (b : Body) → is_of_parts b ≡ true → free b ≡ true
parts_free (body.Quiet q) is = absurd (cc is)
parts_free b is = refl

are_free : IsFree free
are_free = record {
  parts = parts_free;
  sent = λ k from to what. refl;
  got = λ k. refl;
  void = λ k. refl;
  dropped = λ k. refl;
  armed = λ n. refl;
  halted = λ n. refl;
  refused = λ c. refl;
}

bodies_free : (ls : List Line) → AllByRecursion (λ (l : Line). free l.body ≡ true) ls →
    list_all (λ b. not (is_quiet b)) (map (λ (l : Line). l.body) ls) ≡ true
bodies_free [] all = refl
bodies_free (l ∷ ls) all = λ i. all.0 i && bodies_free ls all.1 i

bodies_of : (n : ℕ) (bs : List Body) → map (λ (l : Line). l.body) (block n bs) ≡ bs
bodies_of n [] = refl
bodies_of n (b ∷ bs) = ap (λ (cs : List Body). b ∷ cs) (bodies_of n bs)

-- ---- the line itself changes nothing

module _ (e : ℕ) (q : Bool) where
  abbrev line : Line
  line = record { event = e; body = body.Quiet q }

  acts_on : (ls : List Line) → acts (ls ++ line ∷ []) ≡ acts ls
  acts_on ls = acts_more [] ls (line ∷ [])

  answers_on : (ls : List Line) (l : List ℕ) → answers_to (ls ++ line ∷ []) l ≡ answers_to ls l
  answers_on ls l = filter-append (λ (x : Line). is_answer_to l x.body) ls (line ∷ []) ∙ append-nil (answers_to ls l)

  over_on : (ls : List Line) (a : Act) → is_over (ls ++ line ∷ []) a ≡ is_over ls a
  over_on ls a = λ i. has_end (read_none ended_of ls line refl i) a.id || is_halted (read_none halt_of ls line refl i) a

  over_act_on : (ls : List Line) (o : Option Act) → model.is_over_act (ls ++ line ∷ []) o ≡ model.is_over_act ls o
  over_act_on ls None = refl
  over_act_on ls (Some a) = over_on ls a

  ended_on : (ls : List Line) (l : List ℕ) → model.has_ended (ls ++ line ∷ []) l ≡ model.has_ended ls l
  ended_on ls l = (λ i. model.is_over_act (ls ++ line ∷ []) (act_in (acts_on ls i) l)) ∙ over_act_on ls (act_in (acts ls) l)

  committing_on : (ls : List Line) (l : List ℕ) → model.is_committing (ls ++ line ∷ []) l ≡ model.is_committing ls l
  committing_on ls l = λ i. holds_of (λ (a : Act). was_called (read_none committing_of ls line refl i) a.id && not (over_on ls a i))
      (act_in (acts_on ls i) l)

  waiting_on : (acc : List Asked) (ls : List Line) (l : List ℕ) →
      (is_some (model.waits_for acc (ls ++ line ∷ []) l) || model.is_committing (ls ++ line ∷ []) l)
      ≡ (is_some (model.waits_for acc ls l) || model.is_committing ls l)
  waiting_on acc ls l = λ i.
      is_some (if ended_on ls l i then None else option_map (λ (a : Asked). a.event)
      (if nat_lt (length (answers_on ls l i)) (length (asks_by acc l)) then last_asked (asks_by acc l) else None))
      || committing_on ls l i

  open_on : (ks : List ℕ) (ls : List Line) → open_from ks (ls ++ line ∷ []) ≡ open_from ks ls
  open_on ks [] = refl
  open_on ks (l ∷ ls) = open_on (open_step l.body ks) ls

-- ---- what is seen of nodes and frames

range_all : (test : ℕ → Bool) (a c : ℕ) → ((n : ℕ) → a ≤ n → n + 1 ≤ a + c → test n ≡ true) → list_all test (range_with_len a c) ≡ true
range_all test a zero each = refl
range_all test a (suc c) each = λ i. first i && range_all test (a + 1) c (λ n low high. each n (less n low) (more n high)) i
  where
    first : test a ≡ true
    first = each a (omega arith) (omega arith)

    less : (n : ℕ) → a + 1 ≤ n → a ≤ n
    less n low = omega (arith, low)

    more : (n : ℕ) → n + 1 ≤ (a + 1) + c → n + 1 ≤ a + suc c
    more n high = omega (arith, high)

all_at : {A : Type 0} (test : A → Bool) (xs : List A) → list_all test xs ≡ true → (n : ℕ) (x : A) → at_place n xs ≡ Some x → test x ≡ true
all_at {A} test xs all zero x is = let no_way : ◌≡◌ {A = Option A} None (Some x) = is in absurd (cc no_way)
all_at {A} test xs all (suc j) x is = go xs all j is
  where
    go : (ys : List A) → list_all test ys ≡ true → (j : ℕ) → slice_get ys j ≡ Some x → test x ≡ true
    go [] all j is = let no_way : ◌≡◌ {A = Option A} None (Some x) = is in absurd (cc no_way)
    go (y ∷ ys) all zero is =
        let same : y ≡ x = cc is in ap test (sym same) ∙ (and_parts (test y) (list_all test ys) all).0
    go (y ∷ ys) all (suc j) is = go ys (and_parts (test y) (list_all test ys) all).1 j is

idle_up : (n : Node) → is_idle n ≡ true → is_some n.live ≡ true
idle_up n is = by n.live is
  where
    by : (o : Option Parts) → is_idle_with n.disk o ≡ true → is_some o ≡ true
    by None is = absurd (cc is)
    by (Some t) is = refl

opens_none : (k : ℕ) (fs : List Frame) → lowest_from k fs ≡ None → opens k fs ≡ []
opens_none k [] is = refl
opens_none k (f ∷ fs) is = by (is_open_frame f) (opens_none (k + 1) fs) is
  where
    by : (b : Bool) → (lowest_from (k + 1) fs ≡ None → opens (k + 1) fs ≡ []) → cond b (Some k) (lowest_from (k + 1) fs) ≡ None →
        cond b (k ∷ opens (k + 1) fs) (opens (k + 1) fs) ≡ []
    by true rest is = absurd (cc is)
    by false rest is = rest is

acts_all : (test : Act → Bool) (xs : List Act) → ((a : Act) → In a xs → test a ≡ true) → list_all test xs ≡ true
acts_all test [] each = refl
acts_all test (a ∷ xs) each = λ i. each a (inl refl) i && acts_all test xs (λ x there. each x (inr there)) i

module _ (hd : Header) (form : HeaderFits hd) where
  record Stands (p : Past) (w : World) : Type 0 where
    pub base : refusing.Stands hd form p w
    pub filled : IsFilled w
    pub past : History
    pub told : IsToldBy p past
    pub tied : HoldsWith hd Tied past w

  module _ (m : Move) (p : Past) (w : World) (stops : IsStoppedInForm m) (s : Stands p w) (on : w.over ≡ false) where
    abbrev u : World
    u = record w { arms = m.falls }

    abbrev t : World
    t = counted (record w { arms = m.falls })

    abbrev e : Event
    e = event_of m

    abbrev arm : Arm
    arm = let a = m.asked in a.arm

    module _ (bodies : List Body) (after : frames.Stands hd form (next p e bodies) (moved m w))
        (base : refusing.Stands hd form (next p e bodies) (moved m w)) where
      lines : w.lines ++ block (w.event + 1) bodies ≡ (moved m w).lines
      lines = (λ i. (sym s.base.base.lines) i ++ block ((sym s.base.base.count) i + 1) bodies) ∙ after.lines

      count : (moved m w).event ≡ w.event + 1
      count = sym after.count ∙ ap (λ n. n + 1) s.base.base.count

      later : History
      later = past_event m.asked (record w { arms = m.falls }) s.past

      told : IsToldBy (next p e bodies) (past_event m.asked (record w { arms = m.falls }) s.past)
      told = told_on hd form m p w stops s.base on s.past s.told bodies after

      tied : HoldsWith hd Tied (past_event m.asked (record w { arms = m.falls }) s.past) (moved m w)
      tied = move_with hd Tied (tied_keep hd) m s.past w s.tied

      moved_is : (v : World) → run_unless e arm u (first_reason (reasons e u)) ≡ v → moved m w ≡ record v { arms = [] }
      moved_is v is = ap (λ (x : World). record x { arms = [] })
          ((λ i. cond (on i) u (run_unless e arm u (first_reason (reasons e u)))) ∙ is)

      abbrev Fits : Type 0
      Fits = RowStep kind hd p e bodies × IsFilled (moved m w)

      filled_by : (v : World) → moved m w ≡ record v { arms = [] } → IsFilled v → IsFilled (moved m w)
      filled_by v is f = subst IsFilled (sym is) (record { few = f.few; full = f.full })

      -- none of the lines says whether all is quiet
      none_fit : (more : List Line) → block (w.event + 1) bodies ≡ more → AllByRecursion (λ (l : Line). free l.body ≡ true) more →
          RowStep kind hd p e bodies
      none_fit more is all = none_rows kind (here_at hd p e bodies) bodies
          (λ g. subst (λ bs. list_all (λ b. not (is_quiet b)) bs ≡ true)
          (ap (map (λ (l : Line). l.body)) (sym is) ∙ bodies_of (w.event + 1) bodies) (bodies_free more all))

      -- ---- the last one does

      module _ (quiesces : is_quiesce e ≡ true) (v : World) (still : Bool) (here : moved m w ≡ record (says
          (body.Quiet still ∷ []) v) { arms = [] })
          (says_so : still ≡ true → list_all is_idle v.nodes ≡ true) (none_open : lowest_from 1 v.frames ≡ None)
          (more : List Line) (is : block (w.event + 1) bodies ≡ more ++ block (w.event + 1) (body.Quiet still ∷ []))
          (all : AllByRecursion (λ (l : Line). free l.body ≡ true) more) where
        abbrev front : List Body
        front = map (λ (l : Line). l.body) more

        are : bodies ≡ front ++ body.Quiet still ∷ []
        are = sym (bodies_of (w.event + 1) bodies) ∙ ap (map (λ (l : Line). l.body)) is
            ∙ map-append (λ (l : Line). l.body) more (block (w.event + 1) (body.Quiet still ∷ []))

        abbrev before : List Line
        before = p.lines ++ block (p.count + 1) front

        all_lines : p.lines ++ block (p.count + 1) bodies ≡ before ++ block (p.count + 1) (body.Quiet still ∷ [])
        all_lines = ap (λ bs. p.lines ++ block (p.count + 1) bs) are
            ∙ ap (λ ls. p.lines ++ ls) (map-append (λ (b : Body). record { event = p.count + 1; body = b }) front (body.Quiet still ∷ []))
            ∙ sym (append_assoc p.lines (block (p.count + 1) front) (block (p.count + 1) (body.Quiet still ∷ [])))

        same_nodes : (moved m w).nodes ≡ v.nodes
        same_nodes = ap (λ (x : World). x.nodes) here

        idle : still ≡ true → (n : ℕ) (x : Node) → at_place n (moved m w).nodes ≡ Some x → is_idle x ≡ true
        idle so n x at = all_at is_idle v.nodes (says_so so) n x (ap (at_place n) (sym same_nodes) ∙ at)

        abbrev spot : Here
        spot = record (here_at hd p e bodies) { lines = before }

        ups : still ≡ true → list_all (λ n. not (is_down p.start before n)) (nodes_of hd) ≡ true
        ups so = range_all (λ n. not (is_down p.start before n)) 1 hd.nodes (λ n low high. one n (within n hd.nodes low high))
          where
            within : (n k : ℕ) → 1 ≤ n → n + 1 ≤ 1 + k → (nat_le 1 n && nat_le n k) ≡ true
            within n k low high = grind (arith, nat_tests, low, high)

            at : (n : ℕ) (o : Option Node) → at_place n (moved m w).nodes ≡ o → is_some o ≡ true → not (is_down p.start before n) ≡ true
            at n None there some = absurd (cc some)
            at n (Some x) there some =
                let down : is_down p.start before n ≡ not (is_some x.live) =
                sym (down_on (p.count + 1) (body.Quiet still) n (not (let st = p.start in st.up n)) before)
                ∙ ap (λ ls. is_down p.start ls n) (sym all_lines) ∙ after.tells.ups n x there in
                (λ i. not (down i)) ∙ (λ i. not (not (idle_up x (idle so n x there) i)))

            one : (n : ℕ) → is_node hd n ≡ true → not (is_down p.start before n) ≡ true
            one n node = at n (at_place n (moved m w).nodes) refl (after.placed.places n node)

        closed : not (has_some (model.open_frames before)) ≡ true
        closed = λ i. not (has_some (none i))
          where
            none : model.open_frames before ≡ []
            none = sym (open_on (p.count + 1) still [] before) ∙ ap model.open_frames (sym all_lines) ∙ after.tells.pending
                ∙ ap (opens 1) (ap (λ (x : World). x.frames) here) ∙ opens_none 1 v.frames none_open

        calm : still ≡ true → list_all (λ (a : Act). not (is_waiting (past_of spot) a.label)) (acts before) ≡ true
        calm so = acts_all (λ (a : Act). not (is_waiting (past_of spot) a.label)) (acts before) (λ a there. λ i. not (one a there i))
          where
            one : (a : Act) → In a (acts before) → is_waiting (past_of spot) a.label ≡ false
            one a there =
                sym (waiting_on (p.count + 1) still (next p e bodies).accepted before a.label)
                ∙ ap (λ ls. is_some (model.waits_for (next p e bodies).accepted ls a.label) || model.is_committing ls a.label)
                (sym all_lines)
                ∙ nobody_waits hd (next p e bodies) (moved m w) after.lines base.halts base.finds
                (past_event m.asked (record w { arms = m.falls }) s.past) told tied (idle so) a
                (subst (In a) (sym (ap acts all_lines ∙ acts_on (p.count + 1) still before)) there)

        its_still : (b : Bool) → still ≡ b → (if b then is_still spot else true) ≡ true
        its_still false not_so = refl
        its_still true so = λ i. ups so i && (closed i && calm so i)

        its_row : row kind (behind_all (here_at hd p e bodies) front) (body.Quiet still) ≡ true
        its_row = subst (λ g. row kind g (body.Quiet still) ≡ true) (sym (behind_lines (here_at hd p e bodies) front))
            (λ i. quiesces i && its_still still refl i)

        quiet_fits : RowStep kind hd p e bodies
        quiet_fits =
            subst (λ bs. are_so (row kind) (here_at hd p e bodies) bs ≡ true) (sym are)
            (so_both (row kind) (here_at hd p e bodies) front (body.Quiet still ∷ [])
            (none_rows kind (here_at hd p e bodies) front (λ g. bodies_free more all)) (λ i. its_row i && true))

      -- ---- all lines of the event

      start : filling.So free are_free w.lines t
      start = record {
        more = [];
        lines = sym (append-nil w.lines);
        passes = tt;
        filled = record { few = s.filled.few; full = s.filled.full };
      }

      same_event : (v : World) → moved m w ≡ record v { arms = [] } → v.event ≡ w.event + 1
      same_event v here = sym (ap (λ (y : World). y.event) here) ∙ count

      -- with the limit behind lines that are free
      limit_fits : (v : World) → filling.So free are_free w.lines v →
          moved m w ≡ record (says (body.Limit which.Frames ∷ []) (record v { over = true })) { arms = [] } → Fits
      limit_fits v so here = (
        none_fit (so.more ++ block v.event (body.Limit which.Frames ∷ []))
            (append_cancel_left w.lines (block (w.event + 1) bodies) (so.more ++ block v.event (body.Limit which.Frames ∷ []))
            (lines ∙ ap (λ (y : World). y.lines) here ∙ (λ i. so.lines i ++ block v.event (body.Limit which.Frames ∷ []))
            ∙ append_assoc w.lines so.more (block v.event (body.Limit which.Frames ∷ []))))
            (all_append (λ (l : Line). free l.body ≡ true) so.more (block v.event (body.Limit which.Frames ∷ [])) so.passes (refl, tt)),
        filled_by (says (body.Limit which.Frames ∷ []) (record v { over = true })) here
            (record { few = so.filled.few; full = so.filled.full }),
      )

      free_fits : (v : World) → filling.So free are_free w.lines v → moved m w ≡ record v { arms = [] } → Fits
      free_fits v so here = (
        none_fit so.more (append_cancel_left w.lines (block (w.event + 1) bodies) so.more
            (lines ∙ ap (λ (y : World). y.lines) here ∙ so.lines)) so.passes,
        filled_by v here so.filled,
      )

      refused_fits : (c : ℕ) → moved m w ≡ record (says (body.Refused c ∷ []) t) { arms = [] } → Fits
      refused_fits c is = (
        none_fit (block (w.event + 1) (body.Refused c ∷ []))
            (append_cancel_left w.lines (block (w.event + 1) bodies) (block (w.event + 1) (body.Refused c ∷ []))
            (lines ∙ ap (λ (x : World). x.lines) is)) (refl, tt),
        filled_by (says (body.Refused c ∷ []) t) is (record { few = s.filled.few; full = s.filled.full }),
      )

      limited_is : (x : World) → moved m w ≡ record (limited x) { arms = [] } → (b : Bool) → x.full ≡ b →
          moved m w ≡ record (cond b (says (body.Limit which.Frames ∷ []) (record x { over = true })) x) { arms = [] }
      limited_is x is b full = is ∙ (λ i. record (cond (full i) (says (body.Limit which.Frames ∷ []) (record x {
        over =
            true;
      })) x) { arms = [] })

      other_fits : is_quiesce e ≡ false → moved m w ≡ record (limited (happens e arm t)) { arms = [] } → Fits
      other_fits other is = by (happens e arm t).full refl
        where
          so : filling.So free are_free w.lines (happens e arm t)
          so = filling.happens_so free are_free w.lines e arm t
              (λ b so. let no_way : true ≡ false = sym so ∙ other in absurd (cc no_way)) start

          by : (b : Bool) → (happens e arm t).full ≡ b → Fits
          by true met = limit_fits (happens e arm t) so (limited_is (happens e arm t) is true met)
          by false fitted = free_fits (happens e arm t) so (limited_is (happens e arm t) is false fitted)

      quiesce_at : is_quiesce e ≡ true → (z : World) → filling.So free are_free w.lines z → z.full ≡ true ⊎ lowest_from 1 z.frames ≡ None →
          moved m w ≡ record (limited (cond z.full z (says (body.Quiet (list_all is_idle z.nodes) ∷ []) z))) { arms = [] } → Fits
      quiesce_at asks z so settles is = by z.full refl
        where
          here : (b : Bool) → z.full ≡ b →
              moved m w ≡ record (limited (cond b z (says (body.Quiet (list_all is_idle z.nodes) ∷ []) z))) { arms = [] }
          here b full = is ∙ (λ i. record (limited (cond (full i) z (says (body.Quiet (list_all is_idle z.nodes) ∷ []) z))) { arms = [] })

          none : z.full ≡ false → lowest_from 1 z.frames ≡ None
          none fitted = ⊎_elim {C = lowest_from 1 z.frames ≡ None}
              (λ met. let no_way : true ≡ false = sym met ∙ fitted in absurd (cc no_way)) (λ none. none) settles

          said : (x : World) → moved m w ≡ record x { arms = [] } → x ≡ says (body.Quiet (list_all is_idle z.nodes) ∷ []) z →
              z.full ≡ false → Fits
          said x is same fitted = (
            quiet_fits asks z (list_all is_idle z.nodes) whole (λ calm. calm) (none fitted) so.more
                (append_cancel_left w.lines (block (w.event + 1) bodies) (so.more ++ block (w.event + 1) (body.Quiet
                (list_all is_idle z.nodes) ∷ []))
                (lines ∙ ap (λ (y : World). y.lines) whole
                ∙ (λ i. so.lines i ++ block (same_event (says (body.Quiet (list_all is_idle z.nodes) ∷ []) z) whole i)
                (body.Quiet (list_all is_idle z.nodes) ∷ []))
                ∙ append_assoc w.lines so.more (block (w.event + 1) (body.Quiet (list_all is_idle z.nodes) ∷ [])))) so.passes,
            filled_by (says (body.Quiet (list_all is_idle z.nodes) ∷ []) z) whole (record { few = so.filled.few; full = so.filled.full }),
          )
            where
              whole : moved m w ≡ record (says (body.Quiet (list_all is_idle z.nodes) ∷ []) z) { arms = [] }
              whole = is ∙ ap (λ (y : World). record y { arms = [] }) same

          by : (b : Bool) → z.full ≡ b → Fits
          by true met = limit_fits z so (limited_is z (here true met) true met)
          by false fitted = said (says (body.Quiet (list_all is_idle z.nodes) ∷ []) z)
              (limited_is (says (body.Quiet (list_all is_idle z.nodes) ∷ []) z) (here false fitted) false fitted) refl fitted

      quiesce_fits : is_quiesce e ≡ true → moved m w ≡ record (limited (quiesce t)) { arms = [] } → Fits
      quiesce_fits asks is = quiesce_at asks (settle (tick_all (node_numbers t) (settle t)))
          (filling.inner_so free are_free w.lines t start)
          (settled (tick_all (node_numbers t) (settle t)) ticked.filled.few) is
        where
          ticked : filling.So free are_free w.lines (tick_all (node_numbers t) (settle t))
          ticked = filling.ticked_so free are_free w.lines t start

      run_fits : moved m w ≡ record (limited (happens e arm t)) { arms = [] } → Fits
      run_fits is = by (event_of m) refl
        where
          others : (x : Event) → event_of m ≡ x → is_quiesce x ≡ false → Fits
          others x same other = other_fits (ap is_quiesce same ∙ other) is

          by : (x : Event) → event_of m ≡ x → Fits
          by event.Quiesce same = quiesce_fits (ap is_quiesce same)
              (is ∙ ap (λ (y : Event). record (limited (happens y arm t)) { arms = [] }) same)
          by (event.Begin l n) same = others (event.Begin l n) same refl
          by (event.Serial l n) same = others (event.Serial l n) same refl
          by (event.BeginIn l q) same = others (event.BeginIn l q) same refl
          by (event.Top l q) same = others (event.Top l q) same refl
          by (event.Call l x o) same = others (event.Call l x o) same refl
          by (event.Include l x n) same = others (event.Include l x n) same refl
          by (event.Commit l) same = others (event.Commit l) same refl
          by (event.Abort l) same = others (event.Abort l) same refl
          by (event.GiveUp l) same = others (event.GiveUp l) same refl
          by (event.Deliver j) same = others (event.Deliver j) same refl
          by (event.Lose j) same = others (event.Lose j) same refl
          by (event.Tick n) same = others (event.Tick n) same refl
          by event.Settle same = others event.Settle same refl
          by (event.Crash n) same = others (event.Crash n) same refl
          by (event.Restart n) same = others (event.Restart n) same refl
          by (event.Stop n c how) same = others (event.Stop n c how) same refl
          by (event.Junk n bytes) same = others (event.Junk n bytes) same refl
          by (event.Show x) same = others (event.Show x) same refl

      fits : Fits
      fits = by (first_reason (reasons e u)) refl
        where
          run_so : first_reason (reasons e u) ≡ None → (b : Bool) → lacks_labels (giving e u) u ≡ b → Fits
          run_so none true lacks =
              let is = moved_is (no_labels u) (ap (run_unless e arm u) none
              ∙ (λ i. cond (lacks i) (no_labels u) (limited (happens e arm t)))) in
              absurd (stays w.event (sym count ∙ ap (λ (x : World). x.event) is))
            where
              stays : (n : ℕ) → n + 1 ≡ n → ⊥
              stays n is = omega (arith, is)
          run_so none false has = run_fits (moved_is (limited (happens e arm t)) (ap (run_unless e arm u) none
              ∙ (λ i. cond (has i) (no_labels u) (limited (happens e arm t)))))

          by : (r : Option ℕ) → first_reason (reasons e u) ≡ r → Fits
          by None is = run_so is (lacks_labels (giving e u) u) refl
          by (Some c) is = refused_fits c (moved_is (says (body.Refused c ∷ []) t) (ap (run_unless e arm u) is))

    goes : Outcome (RowStep kind hd) Stands m p w
    goes = by (frames.goes hd form m p w stops s.base.base on)
      where
        by : Outcome (FramesStep hd) (frames.Stands hd form) m p w → Outcome (RowStep kind hd) Stands m p w
        by (Ended over event lines) = Ended over event lines
        by (Went bodies step after) =
            let base = (refusing.goes_with hd form m p w stops s.base on bodies after).1 in
            let f = fits bodies after base in
            Went bodies f.0 (record {
              base = base;
              filled = f.1;
              past = past_event m.asked (record w { arms = m.falls }) s.past;
              told = told bodies after base;
              tied = tied bodies after base;
            })

  first_so : (st : Start) → IsFormed hd st → Stands (at_start st) (world_from hd st)
  first_so st formed = record {
    base = refusing.first_stands hd form st formed;
    filled = record { few = omega arith; full = λ full. absurd (cc full) };
    past = no_history st;
    told = record { run = refl; asks = λ l. refl };
    tied = record {
      now = record {
        sent = [];
        stands = first_stands hd st;
        number = refl;
        wrote = ([], refl);
        holds = (let k = tied_keep hd in k.first st formed);
      };
      count = refl;
      lines = λ over. refl;
    };
  }

pub quiet_row : RowHolds is_quiet
quiet_row hd r form =
    runs_along (RowStep kind hd) (Stands hd form.header) IsStoppedInForm (λ p w s. s.base.base.lines) (λ p w s. s.base.base.count)
    (λ m p w stops s on. goes hd form.header m p w stops s on) r.start r.moves (world_from hd r.start) form.stops
    (first_so hd form.header r.start r.formed)
