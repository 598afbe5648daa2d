-- In every run an event is refused by its lowest cause, as far as that asks of actions only whether they began.
use Rattle.arj_law_parts.proofs.Words
use Words.{◌≡◌, ◌∙◌, ◌+◌, ◌≤◌, ◌||◌, not, ℕ, Bool, true, false, cond, List, [], ◌∷◌, ◌++◌, length, map, refl, sym, ap, subst, arith}
use Words.{Option, Some, None, is_some, nat_le, nat_lt, nat_tests, AllByRecursion, at_number, at_place, Body, Event, Header, Label}
use Words.{Line, Node, Input, Step, Arm, World, Giving, Labelled, armed, begins, counted, done_step, first_reason, giving}
use Words.{happens, is_given, labels_unless, lacks_labels, limited, most_frames, no_labels, node_of, only_says, reasons, refusal}
use Words.{refused_at}
use Words.{run_unless, step, step_node, step_with, steps, world_from, Move, moved, journal_by, IsInForm, Start, numbered, see, append-nil}
use Words.{◌-◌}
use Words.{cut, kind_below, disarmed, halted_at, is_at, label_cmp, name}
use Words.body
use Words.event
use Words.input
use Words.kind
use Rattle.arj_law_runs.proofs.Terms.which
use Rattle.arj_law_runs.proofs.Terms.{says, Holds, IsWritten, book, keeps_asked, label_at, act_in, acts}
use Rattle.arj_law_parts.proofs.moves.Happens.{first_asked}
use Rattle.arj_law_parts.proofs.moves.Moving.{move_asked}
use Rattle.arj_law_parts.proofs.parts.LivesNamed.{all_found}
use Rattle.arj_law_parts.specs.steps.Writes.{node_refusal}
use Rattle.arj_law_runs.proofs.follow.Along.{Ended, Outcome, Went, event_of, runs_along}
use Rattle.arj_law_runs.proofs.follow.Frames as frames
use Rattle.arj_law_runs.proofs.follow.Plain.{happens_so, is_refusal, limited_so}
use Rattle.arj_law_runs.proofs.follow.Gone.{ended_so, is_gone}
use Rattle.arj_law_runs.proofs.follow.Halts.{KnowsAll, halts_keep}
use Rattle.arj_law_runs.proofs.follow.Labeled.{KnowsFinds, finds_keep}
use Rattle.arj_law_runs.proofs.follow.Reasons.{joined, named, plain, plain_any, refused_by_any, same_first}
use Rattle.arj_law_runs.proofs.journal.Begun.{new_label}
use Rattle.arj_law_runs.proofs.journal.Models.{its_acts}
use Rattle.arj_law_parts.proofs.moves.Places.{all_found as all_labels}
use Rattle.arj_law_runs.specs.follow.Frames.{FramesStep, run_events}
use Rattle.arj_law_runs.specs.follow.Refusals.{PlainRefusalsStep, ended, is_plain_cause, names_action}
use Rattle.arj_model.specs.Actions.{is_begun}
use Rattle.arj_model.specs.Follows.{Runs}
use Rattle.arj_model.specs.Past.{Past, at_start, block, is_refused, next}
use Rattle.arj_model.specs.Refusals as model
use Rattle.arj_promise.specs.Runs.{HasWork, HeaderFits, IsStoppedInForm, Run}
use Rattle.arj_promise.specs.Starts.{IsFormed}

-- ---- which lines an event wrote

behind_same : {A : Type 0} (xs ys zs : List A) → xs ++ ys ≡ xs ++ zs → ys ≡ zs
behind_same [] ys zs is = is
behind_same {A} (x ∷ xs) ys zs is = behind_same xs ys zs (ap rest is)
  where
    rest : List A → List A
    rest [] = []
    rest (y ∷ ys) = ys

bodies_of : (n : ℕ) (bs : List Body) → map (λ (l : Line). l.body) (block n bs) ≡ bs
bodies_of n [] = refl
bodies_of n (b ∷ bs) = ap (λ (cs : List Body). b ∷ cs) (bodies_of n bs)

pub same_bodies : (n : ℕ) (bs cs : List Body) (ls : List Line) → ls ++ block n bs ≡ ls ++ block n cs → bs ≡ cs
same_bodies n bs cs ls is =
    sym (bodies_of n bs) ∙ ap (λ xs. map (λ (l : Line). l.body) xs) (behind_same ls (block n bs) (block n cs) is) ∙ bodies_of n cs

none_refused : (n : ℕ) (bs : List Body) → AllByRecursion (λ (l : Line). is_refusal l.body ≡ false) (block n bs) → is_refused bs ≡ false
none_refused n [] all = refl
none_refused n (body.Refused c ∷ []) all = absurd (cc all.0)
none_refused n (b ∷ []) all = refl
none_refused n (b ∷ c ∷ bs) all = by b
  where
    by : (x : Body) → is_refused (x ∷ c ∷ bs) ≡ false
    by (body.Refused k) = refl
    by x = refl

-- ---- a node refuses

abbrev HaveWork : List (ℕ × Arm) → Type 0
HaveWork arms = AllByRecursion (λ (a : ℕ × Arm). HasWork a.1) arms

-- lines, and whether a frame didn't fit
pub record Leaves (c : ℕ) (w v : World) : Type 0 where
  pub lines : v.lines ≡ w.lines ++ numbered w.event (body.Refused c ∷ [])
  pub start : v.start ≡ w.start
  pub full : v.full ≡ w.full

module _ (c : ℕ) (w : World) (few : length w.frames ≤ most_frames) (k : ℕ) (i : Input) where
  abbrev refuses : Node → Step
  refuses n = only_says n (body.Refused c)

  fits : nat_lt most_frames (length w.frames + 0) ≡ false
  fits = by (length w.frames) few
    where
      by : (x : ℕ) → x ≤ most_frames → nat_lt most_frames (x + 0) ≡ false
      by x few = grind (arith, nat_tests, few)

  leaves : (n : Node) (arms : List (ℕ × Arm)) → Leaves c w (done_step k (refuses n) (record w { arms = arms }))
  leaves n arms = record { lines = refl; start = refl; full = (λ j. w.full || fits j) ∙ or_none w.full }
    where
      or_none : (x : Bool) → (x || false) ≡ x
      or_none true = refl
      or_none false = refl

  with_arm : (n : Node) (o : Option Arm) → ((a : Arm) → o ≡ Some a → HasWork a) → Leaves c w (step_with k n (refuses n) w o)
  with_arm n None works = leaves n w.arms
  with_arm n (Some a) works = by (nat_lt 0 a.works) (less a.works (works a refl))
    where
      less : (x : ℕ) → 1 ≤ x → nat_lt 0 x ≡ true
      less x is = grind (arith, nat_tests, is)

      by : (b : Bool) → b ≡ true → Leaves c w (cond b (done_step k (refuses n) (armed k (record a { works = a.works - 0 }) w))
          (halted_at k n (cut (a.works - 1) a.how (refuses n).halting n.disk) (disarmed k w)))
      by true is = leaves n (armed k (record a { works = a.works - 0 }) w).arms
      by false is = absurd (cc is)

  refused_step : (n : Node) → refusal w.header i n ≡ Some c → HaveWork w.arms →
      Leaves c w (step_with k n (step w.header n i) w (at_number k w.arms))
  refused_step n is works =
      subst (λ (r : Option ℕ). Leaves c w (step_with k n (input.step_unless w.header i n r) w (at_number k w.arms))) (sym is)
      (with_arm n (at_number k w.arms) (λ a at. all_found HasWork k w.arms a works at))

  pub refused_at_node : refused_at i w (at_place k w.nodes) ≡ Some c → HaveWork w.arms → Leaves c w (steps k i w)
  refused_at_node is works = by (at_place k w.nodes) is
    where
      by : (o : Option Node) → refused_at i w o ≡ Some c → Leaves c w (step_node k i w o)
      by None none = let no_way : ◌≡◌ {A = Option ℕ} None (Some c) = none in absurd (cc no_way)
      by (Some n) here = refused_step n here works

refused_begin : (c : ℕ) (g : Giving) (w : World) → length w.frames ≤ most_frames → HaveWork w.arms →
    refused_at (input.Begin g.label g.kind g.parent) w (at_place g.node w.nodes) ≡ Some c → Leaves c w (begins g w)
refused_begin c g w few works is =
    subst (λ (r : Option ℕ). Leaves c w (steps g.node (input.Begin g.label g.kind g.parent) (labels_unless g w r))) (sym is)
    (refused_at_node c w few g.node (input.Begin g.label g.kind g.parent) is works)

-- the event that a node refuses leaves nothing more
pub refused_leaves : (c : ℕ) (e : Event) (a : Arm) (w : World) → length w.frames ≤ most_frames → HaveWork w.arms →
    node_refusal e w ≡ Some c →
    Leaves c w (happens e a w)
refused_leaves c (event.Call l x o) a w few works is = refused_at_node c w few (node_of l w) (input.Call l x o) is works
refused_leaves c (event.Include l x n) a w few works is = refused_at_node c w few (node_of l w) (input.Include l x n) is works
refused_leaves c (event.Commit l) a w few works is = refused_at_node c w few (node_of l w) (input.Commit l) is works
refused_leaves c (event.Abort l) a w few works is = refused_at_node c w few (node_of l w) (input.Abort l) is works
refused_leaves c (event.GiveUp l) a w few works is = refused_at_node c w few (node_of l w) (input.GiveUp l) is works
refused_leaves c (event.Begin l n) a w few works is =
    refused_begin c (record { label = l; kind = kind.Top; parent = None; node = n }) w few works is
refused_leaves c (event.Serial l n) a w few works is =
    refused_begin c (record { label = l; kind = kind.Serial; parent = None; node = n }) w few works is
refused_leaves c (event.BeginIn l p) a w few works is =
    refused_begin c (record { label = l; kind = kind_below p w; parent = Some p; node = node_of p w }) w few works is
refused_leaves c (event.Top l p) a w few works is =
    refused_begin c (record { label = l; kind = kind.Independent; parent = Some p; node = node_of p w }) w few works is
refused_leaves c e a w few works is = let no_way : ◌≡◌ {A = Option ℕ} None (Some c) = is in absurd (cc no_way)

-- ---- what refuses an event, and what it wrote

-- The event was refused, by the world or by the node that it asks, or by neither.
pub data Came (e : Event) (a : Arm) (w : World) (bodies : List Body) : Type 0 where
  IsRefused : (c : ℕ) → refused_by_any e w ≡ Some c → bodies ≡ body.Refused c ∷ [] → Came e a w bodies
  IsRun : refused_by_any e w ≡ None → is_refused bodies ≡ false →
      w.lines ++ block w.event bodies ≡ (limited (happens e a w)).lines → Came e a w bodies

-- behind it the run began as it did, and where it goes on each frame fits
pub record Leads (w v : World) : Type 0 where
  pub start : v.start ≡ w.start
  pub full : v.over ≡ false → v.full ≡ false

module _ (m : Move) (w : World) (on : w.over ≡ false) (free : w.full ≡ false) (few : length w.frames ≤ most_frames)
    (works : HaveWork m.falls)
    (bodies : List Body) (lines : w.lines ++ block (w.event + 1) bodies ≡ (moved m w).lines) (count : (moved m w).event ≡ w.event + 1) where
  abbrev its_event : Event
  its_event = event_of m

  abbrev stop_of : Arm
  stop_of = let a = m.asked in a.arm

  -- the world as the event comes
  abbrev u : World
  u = record w { arms = m.falls }

  abbrev came_to : World
  came_to = counted (record w { arms = m.falls })

  as_before : first_reason (reasons its_event came_to) ≡ first_reason (reasons its_event u)
  as_before = ap first_reason (frames.same_reasons its_event u)

  moved_is : (x : World) → run_unless its_event stop_of u (first_reason (reasons its_event u)) ≡ x → moved m w ≡ record x { arms = [] }
  moved_is x is = ap (λ (y : World). record y { arms = [] }) ((λ i. cond (on i) u (run_unless its_event stop_of u (first_reason
      (reasons its_event u)))) ∙ is)

  its : (x : World) → moved m w ≡ record x { arms = [] } → w.lines ++ block (w.event + 1) bodies ≡ x.lines
  its x is = lines ∙ ap (λ (y : World). y.lines) is

  only : (c : ℕ) (x : World) → moved m w ≡ record x { arms = [] } → x.lines ≡ w.lines ++ block (w.event + 1) (body.Refused c ∷ []) →
      bodies ≡ body.Refused c ∷ []
  only c x is said = same_bodies (w.event + 1) bodies (body.Refused c ∷ []) w.lines (its x is ∙ said)

  goes_on : (x : World) → moved m w ≡ record x { arms = [] } → x.start ≡ w.start → (x.over ≡ false → x.full ≡ false) → Leads w (moved m w)
  goes_on x is start full = subst (Leads w) (sym is) (record { start = start; full = full })

  limited_free : (x : World) → (limited x).over ≡ false → (limited x).full ≡ false
  limited_free x = by x.full refl
    where
      by : (b : Bool) → x.full ≡ b → (cond b (says (body.Limit which.Frames ∷ []) (record x { over = true })) x).over ≡ false →
          (cond b (says (body.Limit which.Frames ∷ []) (record x { over = true })) x).full ≡ false
      by true full over = absurd (cc over)
      by false full over = full

  limited_same : (x : World) → x.full ≡ false → limited x ≡ x
  limited_same x is = λ i. cond (is i) (says (body.Limit which.Frames ∷ []) (record x { over = true })) x

  by_world : (c : ℕ) → first_reason (reasons its_event came_to) ≡ Some c → refused_by_any its_event came_to ≡ Some c
  by_world c is = ap (λ o. joined o (node_refusal its_event came_to)) is

  by_node : first_reason (reasons its_event came_to) ≡ None → refused_by_any its_event came_to ≡ node_refusal its_event came_to
  by_node is = ap (λ o. joined o (node_refusal its_event came_to)) is

  pub came : Came its_event stop_of came_to bodies × Leads w (moved m w)
  came = by (first_reason (reasons its_event u)) refl
    where
      accepted : first_reason (reasons its_event u) ≡ None → moved m w ≡ record (limited
          (happens its_event stop_of came_to)) { arms = [] } → (o : Option ℕ) →
          node_refusal its_event came_to ≡ o → Came its_event stop_of came_to bodies × Leads w (moved m w)
      accepted none is (Some c) refused =
          let l = refused_leaves c its_event stop_of came_to few works refused in
          let same = limited_same (happens its_event stop_of came_to) (l.full ∙ free) in
          let is_so : moved m w ≡ record (happens its_event stop_of came_to) { arms = [] } = is
          ∙ ap (λ (y : World). record y { arms = [] }) same in (
            IsRefused c (by_node (as_before ∙ none) ∙ refused) (only c (happens its_event stop_of came_to) is_so l.lines),
            goes_on (happens its_event stop_of came_to) is_so l.start (λ over. l.full ∙ free),
          )
      accepted none is None granted =
          let s = limited_so w.lines w.start (happens its_event stop_of came_to)
          (happens_so w.lines w.start its_event stop_of came_to granted
          (record { start = refl; more = []; lines = sym (append-nil w.lines); none = tt })) in (
            IsRun (by_node (as_before ∙ none) ∙ granted)
                (none_refused (w.event + 1) bodies
                (subst (AllByRecursion (λ (l : Line). is_refusal l.body ≡ false)) (sym (behind_same w.lines (block
                (w.event + 1) bodies) s.more
                (its (limited (happens its_event stop_of came_to)) is ∙ s.lines))) s.none))
                (its (limited (happens its_event stop_of came_to)) is),
            goes_on (limited (happens its_event stop_of came_to)) is s.start (limited_free (happens its_event stop_of came_to)),
          )

      labelled : first_reason (reasons its_event u) ≡ None → (b : Bool) → lacks_labels (giving its_event u) u ≡ b →
          Came its_event stop_of came_to bodies × Leads w (moved m w)
      labelled none true lacks =
          let is = moved_is (no_labels u) (ap (run_unless its_event stop_of u) none
          ∙ (λ i. cond (lacks i) (no_labels u) (limited (happens its_event stop_of came_to)))) in
          absurd (stays w.event (sym count ∙ ap (λ (x : World). x.event) is))
        where
          stays : (n : ℕ) → n + 1 ≡ n → ⊥
          stays n is = omega (arith, is)
      labelled none false has =
          accepted none
          (moved_is (limited (happens its_event stop_of came_to)) (ap (run_unless its_event stop_of u) none
          ∙ (λ i. cond (has i) (no_labels u) (limited (happens its_event stop_of came_to))))) (node_refusal its_event came_to) refl

      by : (o : Option ℕ) → first_reason (reasons its_event u) ≡ o → Came its_event stop_of came_to bodies × Leads w (moved m w)
      by (Some c) refused =
          let x = says (body.Refused c ∷ []) came_to in
          let is = moved_is x (ap (run_unless its_event stop_of u) refused) in
          (IsRefused c (by_world c (as_before ∙ refused)) (only c x is refl), goes_on x is refl (λ over. free))
      by None none = labelled none (lacks_labels (giving its_event u) u) refl

-- ---- runs

module _ (hd : Header) (form : HeaderFits hd) where
  -- a run up to an event, and the world there
  pub record Stands (p : Past) (w : World) : Type 0 where
    pub base : frames.Stands hd form p w
    pub halts : Holds hd KnowsAll w
    pub finds : Holds hd KnowsFinds w
    pub start : p.start ≡ w.start
    pub full : w.over ≡ false → w.full ≡ false

  -- each label that was given is that of an action which began
  pub given_begun : (w : World) → Holds hd KnowsAll w → (l : Label) → is_begun w.lines (name l) ≡ is_given l w
  given_begun w h l = by (label_at l w.labels) refl
    where
      written : IsWritten (see h.sent w)
      written = let k = h.holds in k.0.1

      acts_are : (let B = book w.lines in B.acts) ≡ acts w.lines
      acts_are = its_acts w.lines written.right

      by : (o : Option Labelled) → label_at l w.labels ≡ o → is_begun w.lines (name l) ≡ is_some (label_at l w.labels)
      by None none = ap (λ xs. is_some (act_in xs (name l))) (sym acts_are)
          ∙ ap is_some (new_label w.labels (let B = book w.lines in B.acts) l none written.labels) ∙ sym (ap is_some none)
      by (Some g) some =
          let b = written.begun l g some in
          ap (λ xs. is_some (act_in xs (name l))) (sym acts_are) ∙ ap is_some b.1 ∙ sym (ap is_some some)

  module _ (m : Move) (p : Past) (w : World) (stops : IsStoppedInForm m) (s : Stands p w) (on : w.over ≡ false) where
    abbrev e : Event
    e = event_of m

    abbrev arm : Arm
    arm = let a = m.asked in a.arm

    abbrev t : World
    t = counted (record w { arms = m.falls })

    places : (n : ℕ) → model.is_node t.header n ≡ true → is_some (at_place n w.nodes) ≡ true
    places n node = s.halts.stands.places n (subst (λ h. model.is_node h n ≡ true) s.base.is node)

    begun : (l : Label) → is_begun p.lines (name l) ≡ is_given l w
    begun l = ap (λ ls. is_begun ls (name l)) s.base.lines ∙ given_begun w s.halts l

    pub labelled_so : (l : Label) → is_given l t ≡ true → (g : Labelled) × (n : Node) × (label_at l t.labels ≡ Some g)
        × (at_place g.node t.nodes ≡ Some n) × (model.has_ended p.lines (name l) ≡ is_gone l n.live)
    labelled_so l is = by (label_at l w.labels) refl is
      where
        node : (g : Labelled) → label_at l w.labels ≡ Some g → (o : Option Node) → at_place g.node w.nodes ≡ o → is_some o ≡ true →
            (g : Labelled) × (n : Node) × (label_at l w.labels ≡ Some g) × (at_place g.node w.nodes ≡ Some n)
            × (model.has_ended p.lines (name l) ≡ is_gone l n.live)
        node g given None at some = let no_way : false ≡ true = some in absurd (cc no_way)
        node g given (Some n) at some =
            (g, n, given, at, ap (λ ls. model.has_ended ls (name l)) s.base.lines ∙ ended_so hd w s.halts s.finds l g given n at)

        by : (o : Option Labelled) → label_at l w.labels ≡ o → is_some o ≡ true →
            (g : Labelled) × (n : Node) × (label_at l w.labels ≡ Some g)
            × (at_place g.node w.nodes ≡ Some n) × (model.has_ended p.lines (name l) ≡ is_gone l n.live)
        by None none some = let no_way : false ≡ true = some in absurd (cc no_way)
        by (Some g) given some = node g given (at_place g.node w.nodes) refl
            (all_labels (λ (q : Labelled). is_some (at_place q.node w.nodes) ≡ true) (is_at
            (label_cmp l)) g w.labels s.halts.stands.labels given)

    -- where free action is named the journal's lowest cause and the refusal are one
    pub plain_same : names_action e ≡ false → model.refusal hd p e ≡ refused_by_any e t
    plain_same free = same_first (model.causes hd p e) ∙ plain hd p t s.base.is s.start s.base.tells begun places e free
        ∙ sym (plain_any e t free)

    -- and else, as far as they are plain
    pub same : (c : ℕ) → is_plain_cause e c ≡ true → (model.refusal hd p e ≡ Some c → refused_by_any e t ≡ Some c)
        × (refused_by_any e t ≡ Some c → model.refusal hd p e ≡ Some c)
    same c plain_one = by (names_action e) refl plain_one
      where
        first : model.refusal hd p e ≡ first_reason (model.causes hd p e)
        first = same_first (model.causes hd p e)

        by : (b : Bool) → names_action e ≡ b → (not b || nat_le c ended) ≡ true → (model.refusal hd p e ≡ Some c →
            refused_by_any e t ≡ Some c)
            × (refused_by_any e t ≡ Some c → model.refusal hd p e ≡ Some c)
        by true its low = let r = named hd p t s.base.is s.start s.base.tells begun places labelled_so e its c low in
            (λ is. r.0 (sym first ∙ is), λ is. first ∙ r.1 is)
        by false free low = let is_same = plain_same free in (λ is. sym is_same ∙ is, λ is. is_same ∙ is)

    never : {A : Type 0} (c : ℕ) → ◌≡◌ {A = Option ℕ} None (Some c) → A
    never c no_way = absurd (cc no_way)

    same_line : (c d : ℕ) → ◌≡◌ {A = List Body} (body.Refused c ∷ []) (body.Refused d ∷ []) → c ≡ d
    same_line c d is = let k : c ≡ d = cc is in k

    same_some : (c d : ℕ) → ◌≡◌ {A = Option ℕ} (Some c) (Some d) → c ≡ d
    same_some c d is = let k : c ≡ d = cc is in k

    refused_so : (bodies : List Body) (c : ℕ) → is_refused bodies ≡ false → bodies ≡ body.Refused c ∷ [] → ⊥
    refused_so bodies c none is = let no_way : true ≡ false = sym (ap is_refused is) ∙ none in cc

    pub refuses_so : (bodies : List Body) → Came e arm t bodies → PlainRefusalsStep hd p e bodies
    refuses_so bodies (IsRefused d refused is) c plain_one = (
      λ low. is ∙ ap (λ k. body.Refused k ∷ []) (same_some d c (sym refused ∙ (same c plain_one).0 low)),
      λ line. (same c plain_one).1 (refused ∙ ap Some (same_line d c (sym is ∙ line))),
    )
    refuses_so bodies (IsRun none isnt lines) c plain_one =
        (λ low. never c (sym none ∙ (same c plain_one).0 low), λ line. absurd (refused_so bodies c isnt line))

    -- what the event's lines are, and where the run stands behind them
    pub goes_with : (bodies : List Body) → frames.Stands hd form (next p e bodies) (moved m w) →
        Came e arm t bodies × Stands (next p e bodies) (moved m w)
    goes_with bodies after = (
      c.0,
      record {
        base = after;
        halts = move_asked hd KnowsAll (keeps_asked hd KnowsAll (halts_keep hd)) m w s.halts;
        finds = move_asked hd KnowsFinds (keeps_asked hd KnowsFinds (finds_keep hd)) m w s.finds;
        start = s.start ∙ sym go.start;
        full = go.full;
      },
    )
      where
        lines : w.lines ++ block (w.event + 1) bodies ≡ (moved m w).lines
        lines = (λ i. (sym s.base.lines) i ++ block ((sym s.base.count) i + 1) bodies) ∙ after.lines

        count : (moved m w).event ≡ w.event + 1
        count = sym after.count ∙ ap (λ n. n + 1) s.base.count

        c : Came e arm t bodies × Leads w (moved m w)
        c = came m w on (s.full on) s.base.few stops.1 bodies lines count

        go : Leads w (moved m w)
        go = c.1

    pub goes : Outcome (PlainRefusalsStep hd) Stands m p w
    goes = by (frames.goes hd form m p w stops s.base on)
      where
        by : Outcome (FramesStep hd) (frames.Stands hd form) m p w → Outcome (PlainRefusalsStep hd) Stands m p w
        by (Ended over event lines) = Ended over event lines
        by (Went bodies step after) = let g = goes_with bodies after in Went bodies (refuses_so bodies g.0) g.1

  pub first_stands : (st : Start) → IsFormed hd st → Stands (at_start st) (world_from hd st)
  first_stands st formed = record {
    base = frames.first_stands hd form st formed;
    halts = first_asked hd st KnowsAll formed (keeps_asked hd KnowsAll (halts_keep hd));
    finds = first_asked hd st KnowsFinds formed (keeps_asked hd KnowsFinds (finds_keep hd));
    start = refl;
    full = λ on. refl;
  }

pub refusals_are_caused : (hd : Header) (r : Run hd) → IsInForm hd r →
    Runs (PlainRefusalsStep hd) r.start (run_events hd r) (journal_by hd r)
refusals_are_caused hd r form =
    runs_along (PlainRefusalsStep hd) (Stands hd form.header) IsStoppedInForm (λ p w s. s.base.lines) (λ p w s. s.base.count)
    (λ m p w stops s on. goes hd form.header m p w stops s on) r.start r.moves (world_from hd r.start) form.stops
    (first_stands hd form.header r.start r.formed)
