-- Each handler keeps it: what a coordinator waits for is what was asked last of the action, and isn't answered.
use Rattle.arj_law_parts.proofs.Words
use Words.{⊎_elim, ◌≡◌, ◌≢◌, ◌⊎◌, ◌≤◌, ◌∙◌, ◌==◌, ◌+◌, ◌++◌, ◌||◌, ℕ, zero, suc, Bool, true, false, cond, List, [], ◌∷◌, length}
use Words.{filter, Option, Some, None, refl}
use Words.{Op, sym, ap, subst, inl, inr, arith, AllByRecursion, list_all, and_parts, bytes_eq, bytes_eq-Decides, length-append, uid_cases}
use Words.{eq-eqb, Body, Event, Header, Kind, Label}
use Words.{Uid, name, uids_of, actor, again_all, begin_action, call, call_steps, goes_on, include, next_req, renewed, start, tick_outs}
use Words.{Steps, Goal, Run, Calling, Idle}
use Words.{Coord, Doing, change_doing, doing_of, is_free, keeping_of, on_doing, on_root, root_at, with_keeping, Disk, Effect}
use Words.{Parts}
use Words.{with_coord, unbound, Input, Node, acts as does}
use Words.{branch_named, on_branch, parent_of, parts_in, refusal_up, refused_by}
use Words.{call_reasons, include_reasons, restart_outs}
use Words.{first_reason, is_some, Branch, is_own}
use Words.{root_of, uses_object, at_place, numbered, world_from, see, Seen, is_serial, Post}
use Words.body
use Words.calls
use Words.ending
use Words.event
use Words.frame
use Words.input
use Words.list
use Rattle.arj_law_lock_view.proofs.Terms
use Terms.{act_in, acts, Action, begun_tree, paths_of, IsTree, doing_here, doing_other, same_number, uses_same, disk_by}
use Rattle.arj_law_runs.proofs.journal.{Models.its_acts, Paths.IsPathedOf}
use Rattle.arj_law_lock_view.proofs.facts.Onward.{further_acts, further_again}
use Rattle.arj_law_parts.specs.moves.Keeps.{is_act, label_at}
use Rattle.arj_law_parts.proofs.moves.Together.{with_both}
use Rattle.arj_law_parts.specs.moves.Moments as Moments
use Rattle.arj_law_parts.specs.moves.Moments.{Asking, Moment, asks_now, asking_of, at, given, lined, said, up}
use Rattle.arj_law_parts.specs.moves.Seen.{Within}
use Rattle.arj_law_parts.specs.moves.Seen as seen
use Rattle.arj_law_parts.specs.moves.With.{ArePlain, Brings, Closes, IsFirst, KeepsSteps, Opens, UpWith, WalksWith, is_plain_line}
use Rattle.arj_law_runs.proofs.journal.{Begun.new_label, Beginning.named_at}
use Rattle.arj_law_runs.proofs.journal.Beginning as Beginning
use Rattle.arj_law_runs.proofs.kept.Starts.{first_up}
use Rattle.arj_law_runs.specs.journal.Book.{book}
use Rattle.arj_model.specs.Actions.{path, uids}
use Rattle.arj_model.specs.Past.{Asked, label_of}
use Rattle.arj_model.specs.Refusals.{asks_by, is_ask_by, last_asked}
use Rattle.arj_protocol.specs.Step.{waits_above, waits_below}
use Rattle.arj_start.specs.Start.{Start}
use Rattle.arj_law_lock_view.proofs.asking.Handling as Handling
use Rattle.arj_law_lock_view.proofs.asking.Handling.{goes_so}
use Rattle.arj_law_lock_view.proofs.asking.Knowing.{IsThere, KnowsCoord, is_there, knows_coord, one_name}
use Rattle.arj_law_lock_view.proofs.asking.Dumb.{restart_dumb, tick_dumb}
use Rattle.arj_law_lock_view.proofs.asking.Turning.{acts_turn, again_turn, asked_idle, rise_of, still_there}
use Rattle.arj_law_lock_view.proofs.asking.Tying.{OffTied, Own, answers_stay, dumb_walk, ends_walk, like_tied, none_first, off_of, own_of}
use Rattle.arj_law_lock_view.proofs.asking.Tying.{stop_tied, tied_same}
use Rattle.arj_law_lock_view.specs.asking.Asked.{AskedAreTied, IsTied, IsTiedAt, accepted_of, asks_goal, count_asks}
use Rattle.arj_law_lock_view.specs.asking.Turns.{AreDumb, EndsSo, IsGivenUp, IsHeardIn, NumbersRise, RestsSo, TurnsSo, Why}
use Rattle.arj_law_lock_view.specs.asking.Turns.{calling, is_else, is_reply}

some_is : {A : Type 0} {a b : A} → Some a ≡ Some b → a ≡ b
some_is {A} {a} {b} is = let k : ◌≡◌ {A = Option A} (Some a) (Some b) = is in cc

none_is : {A : Type 0} {x : A} → None ≡ Some x → ⊥
none_is {A} {x} is = let no_way : ◌≡◌ {A = Option A} None (Some x) = is in cc

never : {A : Type 0} {b : Bool} → b ≡ true → b ≡ false → A
never holds fails = let no_way : true ≡ false = sym holds ∙ fails in absurd (cc no_way)

-- what is known of paths, where more may have been sent
abbrev pub IsPathedIn : Seen → Type 0
IsPathedIn S = (begun : List Action) × IsPathedOf begun S

abbrev pub HasPaths : Moment → Type 0
HasPaths M = (sent : List Post) × Within M.seen.sent sent × IsPathedIn (seen.with_sent sent M.seen)

-- ---- lines at which nothing looks

plain_line : (b : Body) → is_plain_line b ≡ true → is_reply b ≡ false
plain_line (body.Ok l x o a) is = absurd (cc is)
plain_line (body.Includes l x n) is = absurd (cc is)
plain_line (body.Conflict l u m n) is = absurd (cc is)
plain_line (body.Lost l n) is = absurd (cc is)
plain_line (body.Changed l n d) is = absurd (cc is)
plain_line b is = refl

pub plain_lines : (bs : List Body) → ArePlain bs → AllByRecursion (λ (b : Body). is_reply b ≡ false) bs
plain_lines [] plain = tt
plain_lines (b ∷ bs) plain = let q = and_parts (is_plain_line b) (list_all is_plain_line bs) plain in (plain_line b q.0, plain_lines bs q.1)

said_tied : (bs : List Body) (M : Moment) → AllByRecursion (λ (b : Body). is_reply b ≡ false) bs → AskedAreTied M → AskedAreTied (said bs M)
said_tied bs M all h = record {
  tied = λ j n t u x there up found. tied_same M.past.askings M.seen.lines (M.seen.lines ++ numbered M.past.number bs) u x (calling x.now)
      (answers_stay M.seen.lines M.past.number bs (name x.label) all) (h.tied j n t u x there up found);
  new = λ l none. let q = h.new l (none_first M.seen.lines (numbered M.past.number bs) l none) in
      (q.0, answers_stay M.seen.lines M.past.number bs l all ∙ q.1);
}

-- ---- one node

module _ (k : ℕ) (d : Disk) (t : Parts) (M : Moment) (h : HasPaths (up k d t M)) (tied : AskedAreTied (up k d t M)) where
  abbrev S : Seen
  S = let N = up k d t M in seen.with_sent h.0 N.seen

  begun : List Action
  begun = h.2.0

  pathed : IsPathedOf h.2.0 (let N = up k d t M in seen.with_sent h.0 N.seen)
  pathed = h.2.1

  here : (let N = up k d t M in N.seen.nodes k) ≡ Some (record { number = k; disk = d; live = Some t })
  here = λ i. cond (same_number k i) (Some (record { number = k; disk = d; live = Some t })) (M.seen.nodes k)

  pub its : KnowsCoord h.2.0 (let N = up k d t M in seen.with_sent h.0 N.seen) k t
  its = knows_coord h.2.0 (let N = up k d t M in seen.with_sent h.0 N.seen) h.2.1 k (record {
    number = k;
    disk = d;
    live =
        Some t;
  }) t here refl

  pub mine : (u : Uid) (x : Doing) → doing_of u t.coord ≡ Some x → IsThere (let N = up k d t M in seen.with_sent h.0 N.seen) k t u x
  mine u x found = is_there h.2.0 (let N = up k d t M in seen.with_sent h.0 N.seen) h.2.1 k t its u x found

  pub tree : IsTree (paths_of h.2.0)
  tree = begun_tree h.2.0 (let g = h.2.1.1.0 in g.begun)

  -- other nodes' actions have other names
  pub other_names : (u : Uid) (x : Doing) → doing_of u t.coord ≡ Some x → (j : ℕ) (n : Node) (s : Parts) (w : Uid) (y : Doing) →
      (j == k) ≡ false →
      M.seen.nodes j ≡ Some n → n.live ≡ Some s → doing_of w s.coord ≡ Some y → bytes_eq (name x.label) (name y.label) ≡ false
  other_names u x found j n s w y other there live at = by (bytes_eq (name x.label) (name y.label)) refl
    where
      Z : Seen
      Z = let N = up k d t M in seen.with_sent h.0 N.seen

      at_j : (let N = up k d t M in N.seen.nodes j) ≡ Some n
      at_j = (λ i. cond (other i) (Some (record { number = k; disk = d; live = Some t })) (M.seen.nodes j)) ∙ there

      by : (b : Bool) → bytes_eq (name x.label) (name y.label) ≡ b → b ≡ false
      by false e = refl
      by true e =
          let a = mine u x found in
          let c = is_there h.2.0 Z h.2.1 j s (knows_coord h.2.0 Z h.2.1 j n s at_j live) w y at in
          let same : u ≡ w = one_name h.2.0 Z h.2.1 k j t s u w x y a c ((bytes_eq-Decides (name x.label) (name y.label)).0 e) in
          let one : j ≡ k = sym c.node ∙ ap (λ (z : Uid). z.node) (sym same) ∙ a.node in
          never (eq-eqb j k one) other

  -- and so has what isn't there yet
  pub new_names : (u : Uid) (x : Doing) → doing_of u t.coord ≡ Some x → (l : List ℕ) → act_in (acts M.seen.lines) l ≡ None →
      bytes_eq (name x.label) l ≡ false
  new_names u x found l none = by (bytes_eq (name x.label) l) refl
    where
      by : (b : Bool) → bytes_eq (name x.label) l ≡ b → b ≡ false
      by false e = refl
      by true e = let a = mine u x found in
          absurd (none_is (sym none ∙ ap (act_in (acts M.seen.lines)) (sym ((bytes_eq-Decides (name x.label) l).0 e)) ∙ a.named))

  pub same_names : (u : Uid) (x : Doing) → doing_of u t.coord ≡ Some x → (w : Uid) (y : Doing) → doing_of w t.coord ≡ Some y →
      bytes_eq (name x.label) (name y.label) ≡ true → w ≡ u
  same_names u x found w y at e = sym (one_name h.2.0 (let N =
      up k d t M in seen.with_sent h.0 N.seen) h.2.1 k k t t u w x y (mine u x found)
      (mine w y at) ((bytes_eq-Decides (name x.label) (name y.label)).0 e))

  pub turn_walk : (W : Why) (v : Parts) (outs : List Effect) → TurnsSo W t.coord outs v.coord → NumbersRise t.coord v.coord →
      WalksWith AskedAreTied k outs (UpWith AskedAreTied k v) d M
  turn_walk W v outs (RestsSo dumb came) rise = dumb_walk k v outs d M dumb (off_of k d (Some t) M tied) (λ u x at. let c = came u x at in
      like_tied M.past.askings M.seen.lines u c.0 x c.2 (rise u c.0 x c.1 at) (own_of k d t M tied u c.0 c.1))
  turn_walk W v outs (EndsSo u x s g front found is lined why are after) rise =
      subst (λ es. WalksWith AskedAreTied k es (UpWith AskedAreTied k v) d M)
      (sym are) (ends_walk k t v u x s g found is (λ w y at e. same_names u x found w y at e) rise after front d M lined (record {
        off = off_of k d (Some t) M tied;
        own = own_of k d t M tied;
        others = λ j n z w y other there live at. other_names u x found j n z w y other there live at;
        begun = λ l none. new_names u x found l none;
      }))

  -- ---- a call or an include is asked

  module _ (q : Asking) (l : Label) (u : Uid) (x : Doing) (s : Steps) (v : Parts) (outs : List Effect) (found : doing_of u t.coord ≡ Some x)
      (named : name x.label ≡ name l) (idle : calling x.now ≡ None) (asks : q.asked.event ≡ asks_goal l s.x s.goal) (act : q.act ≡ u)
      (first : q.first ≡ s.req) (its_path : uids q.asked.path ≡ uids_of s.path)
      (dumb : AreDumb outs) (goes : (w : Uid) (y : Doing) → doing_of w v.coord ≡ Some y →
      ((w ≡ u) × (y ≡ record x { req = s.req; now = Calling s })) ⊎ ((w ≢ u) × (doing_of w t.coord ≡ Some y))) where
    abbrev N : Moment
    N = record M { past = record M.past { askings = q ∷ M.past.askings } }

    ask_is : (m : List ℕ) → is_ask_by m q.asked.event ≡ bytes_eq (name l) m
    ask_is m = ap (is_ask_by m) asks ∙ by s.goal
      where
        by : (g : Goal) → is_ask_by m (asks_goal l s.x g) ≡ bytes_eq (name l) m
        by (Run o) = refl
        by (calls.Include n) = refl

    filter_on : (p : Asked → Bool) (xs ys : List Asked) → filter p (xs ++ ys) ≡ filter p xs ++ filter p ys
    filter_on p [] ys = refl
    filter_on p (a ∷ xs) ys = by (p a) (filter_on p xs ys)
      where
        by : (b : Bool) → filter p (xs ++ ys) ≡ filter p xs ++ filter p ys →
            cond b (a ∷ filter p (xs ++ ys)) (filter p (xs ++ ys)) ≡ cond b (a ∷ filter p xs) (filter p xs) ++ filter p ys
        by true ih = ap (λ zs. a ∷ zs) ih
        by false ih = ih

    nothing_more : (xs : List Asked) → xs ++ [] ≡ xs
    nothing_more [] = refl
    nothing_more (a ∷ xs) = ap (λ ys. a ∷ ys) (nothing_more xs)

    asks_other : (m : List ℕ) → bytes_eq (name l) m ≡ false →
        asks_by (accepted_of (q ∷ M.past.askings)) m ≡ asks_by (accepted_of M.past.askings) m
    asks_other m other = filter_on (λ (a : Asked). is_ask_by m a.event) (accepted_of M.past.askings) (q.asked ∷ [])
        ∙ (λ i. asks_by (accepted_of M.past.askings) m ++ cond ((ask_is m ∙ other) i) (q.asked ∷ []) [])
        ∙ nothing_more (asks_by (accepted_of M.past.askings) m)

    asks_mine : asks_by (accepted_of (q ∷ M.past.askings)) (name l) ≡ asks_by (accepted_of M.past.askings) (name l) ++ q.asked ∷ []
    asks_mine = filter_on (λ (a : Asked). is_ask_by (name l) a.event) (accepted_of M.past.askings) (q.asked ∷ [])
        ∙ (λ i. asks_by (accepted_of M.past.askings) (name l) ++ cond ((ask_is (name l) ∙ (bytes_eq-Decides (name l) (name l)).1 refl) i)
        (q.asked ∷ []) [])

    last_of : (xs : List Asked) (a : Asked) → last_asked (xs ++ a ∷ []) ≡ Some a
    last_of [] a = refl
    last_of (b ∷ []) a = refl
    last_of (b ∷ c ∷ xs) a = last_of (c ∷ xs) a

    other_tied : (w : Uid) (y : Doing) (o : Option Steps) → bytes_eq (name l) (name y.label) ≡ false →
        IsTied M.past.askings M.seen.lines w y o →
        IsTied (q ∷ M.past.askings) M.seen.lines w y o
    other_tied w y None other h = h ∙ ap length (sym (asks_other (name y.label) other))
    other_tied w y (Some z) other h = (
      ap length (asks_other (name y.label) other) ∙ h.0,
      (let a = h.1 in record {
        asking = a.asking;
        there = inr a.there;
        act = a.act;
        first = a.first;
        last = ap last_asked (asks_other (name y.label) other) ∙ a.last;
        goal = a.goal;
        path = a.path;
      }),
    )

    mine_tied : IsTiedAt (q ∷ M.past.askings) M.seen.lines u (record x { req = s.req; now = Calling s })
    mine_tied =
        let old : IsTied M.past.askings M.seen.lines u x None = subst (IsTied M.past.askings M.seen.lines u x) idle
        (own_of k d t M tied u x found) in (
          ap (λ m. count_asks (q ∷ M.past.askings) m) named ∙ ap length asks_mine
              ∙ length-append (asks_by (accepted_of M.past.askings) (name l)) (q.asked ∷ []) ∙ ap (λ m. count_asks M.past.askings m + 1)
              (sym named)
              ∙ ap (λ n. n + 1) (sym old),
          record {
            asking = q;
            there = inl refl;
            act = act;
            first = least first;
            last = ap (λ m. last_asked (asks_by (accepted_of (q ∷ M.past.askings)) m)) named ∙ ap last_asked asks_mine
                ∙ last_of (asks_by (accepted_of M.past.askings) (name l)) q.asked;
            goal = (l, sym named, asks);
            path = its_path;
          },
        )
      where
        least : {m n : ℕ} → m ≡ n → m ≤ n
        least is = omega (arith, is)

    name_off : (m : List ℕ) → bytes_eq (name x.label) m ≡ false → bytes_eq (name l) m ≡ false
    name_off m e = ap (λ z. bytes_eq z m) (sym named) ∙ e

    own_asked : Own v N
    own_asked w y at = ⊎_elim {C = IsTiedAt (q ∷ M.past.askings) M.seen.lines w y}
        (λ r. subst (λ a. IsTiedAt (q ∷ M.past.askings) M.seen.lines a y) (sym r.0)
        (subst (IsTiedAt (q ∷ M.past.askings) M.seen.lines u) (sym r.1) mine_tied))
        (λ r. other_tied w y (calling y.now) (name_off (name y.label) (apart r.0 r.1 (bytes_eq (name x.label) (name y.label)) refl))
        (own_of k d t M tied w y r.1)) (goes w y at)
      where
        apart : w ≢ u → doing_of w t.coord ≡ Some y → (b : Bool) → bytes_eq (name x.label) (name y.label) ≡ b → b ≡ false
        apart other there false e = refl
        apart other there true e = absurd (other (same_names u x found w y there e))

    off_asked : OffTied k N
    off_asked = let o = off_of k d (Some t) M tied in record {
      others = λ j n z other there live w y at. other_tied w y (calling y.now)
          (name_off (name y.label) (other_names u x found j n z w y other there live at)) (o.others j n z other there live w y at);
      new = λ m none. let r = o.new m none in (asks_other m (name_off m (new_names u x found m none)) ∙ r.0, r.1);
    }

    pub asked_walk : WalksWith AskedAreTied k outs (UpWith AskedAreTied k v) d N
    asked_walk = dumb_walk k v outs d N dumb off_asked own_asked

-- ---- who asks

-- an action waits in a step, and the others wait on
goes_turn : (c e : Coord) (s : Steps) (u : Uid) (x : Doing) → ((w : Uid) → is_own w e.tree ≡ is_own w c.tree) → e.doings ≡ c.doings →
    actor s.path ≡ u → doing_of u c ≡ Some x → (w : Uid) (y : Doing) → doing_of w (goes_on s e).part ≡ Some y →
    ((w ≡ u) × (y ≡ record x { req = s.req; now = Calling s })) ⊎ ((w ≢ u) × (doing_of w c ≡ Some y))
goes_turn c e s u x own doings at_u found w y at = ⊎_elim {C =
    ((w ≡ u) × (y ≡ record x { req = s.req; now = Calling s })) ⊎ ((w ≢ u) × (doing_of w c ≡ Some y))}
    (λ same. inl (same, here same)) (λ other. inr (other, sym (same_doing w) ∙ sym (left other (doing_of (actor s.path) e) refl) ∙ at))
    (uid_cases w u)
  where
    f : Doing → Doing
    f d = record d { req = s.req; now = Calling s }

    same_doing : (w : Uid) → doing_of w e ≡ doing_of w c
    same_doing w = λ i. cond (own w i) (at_place w.num (doings i)) None

    there : doing_of (actor s.path) e ≡ Some x
    there = ap (λ z. doing_of z e) at_u ∙ same_doing u ∙ found

    here : w ≡ u → y ≡ record x { req = s.req; now = Calling s }
    here same = some_is (sym at ∙ ap (λ z. doing_of z (on_doing (actor s.path) (λ (d : Doing). record d {
      req = s.req;
      now =
          Calling s;
    }) e))
        (same ∙ sym at_u) ∙ doing_here (actor s.path) (λ (d : Doing). record d { req = s.req; now = Calling s }) e x there)

    left : w ≢ u → (o : Option Doing) → doing_of (actor s.path) e ≡ o →
        doing_of w (change_doing (λ (d : Doing). record d { req = s.req; now = Calling s }) (actor s.path) e o) ≡ doing_of w e
    left other None none = refl
    left other (Some z) is = doing_other (actor s.path) w (record z { req = s.req; now = Calling s }) z e is (λ same. other (same ∙ at_u))

-- the event of an input
abbrev event_by : Input → Event
event_by (input.Call l x o) = event.Call l x o
event_by (input.Include l x s) = event.Include l x s
event_by (input.Commit l) = event.Commit l
event_by i = event.Settle

brings_call : (e : Event) (l : Label) (x : ℕ) (o : Op) → Brings e (input.Call l x o) → e ≡ event.Call l x o
brings_call (event.Begin m n) l x o b = absurd (cc b)
brings_call (event.Serial m n) l x o b = absurd (cc b)
brings_call (event.BeginIn m p) l x o b = absurd (cc b.1)
brings_call (event.Top m p) l x o b = absurd (cc b)
brings_call (event.Call m y p) l x o b = sym (ap event_by b)
brings_call (event.Include m y n) l x o b = absurd (cc b)
brings_call (event.Commit m) l x o b = absurd (cc b)
brings_call (event.Abort m) l x o b = absurd (cc b)
brings_call (event.GiveUp m) l x o b = absurd (cc b)
brings_call e l x o b = absurd b

brings_include : (e : Event) (l : Label) (x s : ℕ) → Brings e (input.Include l x s) → e ≡ event.Include l x s
brings_include (event.Begin m n) l x s b = absurd (cc b)
brings_include (event.Serial m n) l x s b = absurd (cc b)
brings_include (event.BeginIn m p) l x s b = absurd (cc b.1)
brings_include (event.Top m p) l x s b = absurd (cc b)
brings_include (event.Call m y p) l x s b = absurd (cc b)
brings_include (event.Include m y n) l x s b = sym (ap event_by b)
brings_include (event.Commit m) l x s b = absurd (cc b)
brings_include (event.Abort m) l x s b = absurd (cc b)
brings_include (event.GiveUp m) l x s b = absurd (cc b)
brings_include e l x s b = absurd b

brings_commit : (e : Event) (l : Label) → Brings e (input.Commit l) → e ≡ event.Commit l
brings_commit (event.Begin m n) l b = absurd (cc b)
brings_commit (event.Serial m n) l b = absurd (cc b)
brings_commit (event.BeginIn m p) l b = absurd (cc b.1)
brings_commit (event.Top m p) l b = absurd (cc b)
brings_commit (event.Call m y p) l b = absurd (cc b)
brings_commit (event.Include m y n) l b = absurd (cc b)
brings_commit (event.Commit m) l b = sym (ap event_by b)
brings_commit (event.Abort m) l b = absurd (cc b)
brings_commit (event.GiveUp m) l b = absurd (cc b)
brings_commit e l b = absurd b

-- what asks for no call changes no count of calls
more_tied : (q : Asking) (M : Moment) → ((m : List ℕ) → is_ask_by m q.asked.event ≡ false) → AskedAreTied M →
    AskedAreTied (record M { past = record M.past { askings = q ∷ M.past.askings } })
more_tied q M none h = record {
  tied = λ j n t u x there up found. one u x (calling x.now) (h.tied j n t u x there up found);
  new = λ l not_there. let r = h.new l not_there in (same l ∙ r.0, r.1);
}
  where
    filter_on : (p : Asked → Bool) (xs ys : List Asked) → filter p (xs ++ ys) ≡ filter p xs ++ filter p ys
    filter_on p [] ys = refl
    filter_on p (a ∷ xs) ys = by (p a) (filter_on p xs ys)
      where
        by : (b : Bool) → filter p (xs ++ ys) ≡ filter p xs ++ filter p ys →
            cond b (a ∷ filter p (xs ++ ys)) (filter p (xs ++ ys)) ≡ cond b (a ∷ filter p xs) (filter p xs) ++ filter p ys
        by true ih = ap (λ zs. a ∷ zs) ih
        by false ih = ih

    nothing_more : (xs : List Asked) → xs ++ [] ≡ xs
    nothing_more [] = refl
    nothing_more (a ∷ xs) = ap (λ ys. a ∷ ys) (nothing_more xs)

    same : (m : List ℕ) → asks_by (accepted_of (q ∷ M.past.askings)) m ≡ asks_by (accepted_of M.past.askings) m
    same m = filter_on (λ (a : Asked). is_ask_by m a.event) (accepted_of M.past.askings) (q.asked ∷ [])
        ∙ (λ i. asks_by (accepted_of M.past.askings) m ++ cond (none m i) (q.asked ∷ []) [])
        ∙ nothing_more (asks_by (accepted_of M.past.askings) m)

    one : (u : Uid) (x : Doing) (o : Option Steps) → IsTied M.past.askings M.seen.lines u x o →
        IsTied (q ∷ M.past.askings) M.seen.lines u x o
    one u x None t = t ∙ ap length (sym (same (name x.label)))
    one u x (Some s) t = (
      ap length (same (name x.label)) ∙ t.0,
      (let a = t.1 in record {
        asking = a.asking;
        there = inr a.there;
        act = a.act;
        first = a.first;
        last = ap last_asked (same (name x.label)) ∙ a.last;
        goal = a.goal;
        path = a.path;
      }),
    )

-- ---- every handler

-- the parts of what is asked that are of the journal
module _ (k : ℕ) (d : Disk) (t : Parts) (M : Moment) (h : HasPaths (up k d t M)) (tied : AskedAreTied (up k d t M)) (hd : Header)
    (first_line : IsFirst M) (l : Label) (b : Branch) (is_named : branch_named l t.coord ≡ Some b) where
  nm : Beginning.IsNamed t.coord l b
  nm = named_at t.coord (let i = its k d t M h tied in i.names) l b is_named

  there : IsThere (let N = up k d t M in seen.with_sent h.0 N.seen) k t nm.act nm.doing
  there = mine k d t M h tied nm.act nm.doing nm.does

  one_branch : there.branch ≡ b
  one_branch = some_is (sym there.found ∙ nm.found)

  at_act : actor b.path ≡ nm.act
  at_act = ap (λ (z : Branch). actor z.path) (sym one_branch) ∙ there.at_end

  -- the path of what is asked
  asked_path : (e : Event) → label_of e ≡ name l → uids (path (acts (let r = M.past.run in r.lines)) (label_of e)) ≡ uids_of b.path
  asked_path e same = ap (λ m. uids (path (acts (let r = M.past.run in r.lines)) m)) (same ∙ sym nm.name_is)
      ∙ ap (λ ls. uids (path (acts ls) (name nm.doing.label))) first_line ∙ there.path ∙ ap (λ (z : Branch). uids_of z.path) one_branch

  -- its action waits for nothing, and asks by the next number
  idle : (rest : List (ℕ × Bool)) → first_reason ((6, is_some b.ended) ∷
      (7, waits_above b t.coord || waits_below b t.coord) ∷ rest) ≡ None →
      calling (let x = nm.doing in x.now) ≡ None
  idle rest free = asked_idle t.coord h.2.0 (paths_of h.2.0) (tree k d t M h tied) (let i =
      its k d t M h tied in i.coord) b rest free nm.doing
      (ap (λ w. doing_of w t.coord) at_act ∙ nm.does)

  call_walk : (x : ℕ) (o : Op) → refused_by (call_reasons hd x o) t.coord (Some b) ≡ None → M.past.event ≡ event.Call l x o →
      (let did = call b.path x o t.coord in WalksWith AskedAreTied k did.outs (UpWith AskedAreTied k (with_coord t did.part)) d
      (record M { past = record M.past { askings = asking_of l t.coord M.past.run M.past.event ∷ M.past.askings } }))
  call_walk x o free e =
      let p = b.path in
      let c = t.coord in
      let r = root_at (root_of p) c in
      let old = keeping_of x r in
      let kp = renewed (is_free (root_of p) (actor p) x c) old old.kept in
      let f = on_root (root_of p) (with_keeping x kp) (record c { tree = uses_object p x c.tree }) in
      let s = call_steps p x o (next_req (actor p) c) r c kp in
      let did = call b.path x o t.coord in
      asked_walk k d t M h tied (asking_of l t.coord M.past.run M.past.event) l nm.act nm.doing s
      (with_coord t did.part) did.outs nm.does nm.name_is
      (idle ((11, is_serial b.kind) ∷ (12, b.doomed) ∷ (13, Words.not (is_some (Words.class_at x hd))) ∷
      (14, Words.lacks_op o (Words.class_at x hd)) ∷
      (16, Words.has_many_objects b x t.coord.tree) ∷ []) free) e (ap Moments.found_act is_named ∙ at_act)
      (ap (λ z. next_req (Moments.found_act z) c) is_named)
      (asked_path M.past.event (ap label_of e)) (tt, tt)
      (goes_turn c f s nm.act nm.doing (let q = uses_same p x c.tree in q.own) refl at_act nm.does)

  include_walk : (x n : ℕ) → refused_by (include_reasons hd x) t.coord (Some b) ≡ None → M.past.event ≡ event.Include l x n →
      (let did = include b.path x n t.coord in WalksWith AskedAreTied k did.outs (UpWith AskedAreTied k (with_coord t did.part)) d
      (record M { past = record M.past { askings = asking_of l t.coord M.past.run M.past.event ∷ M.past.askings } }))
  include_walk x n free e =
      let p = b.path in
      let c = t.coord in
      let f = record c { tree = uses_object p x c.tree } in
      let s = start p x (calls.Include n) None unbound (next_req (actor p) c) in
      let did = include b.path x n t.coord in
      asked_walk k d t M h tied (asking_of l t.coord M.past.run M.past.event) l nm.act nm.doing s
      (with_coord t did.part) did.outs nm.does nm.name_is
      (idle ((11, is_serial b.kind) ∷ (12, b.doomed) ∷ (13, Words.not (is_some (Words.class_at x hd))) ∷
      (16, Words.has_many_objects b x t.coord.tree) ∷ []) free) e (ap Moments.found_act is_named ∙ at_act)
      (ap (λ z. next_req (Moments.found_act z) c) is_named)
      (asked_path M.past.event (ap label_of e)) (tt, tt)
      (goes_turn c f s nm.act nm.doing (let q = uses_same p x c.tree in q.own) refl at_act nm.does)

-- a coordinator that begins has no action
none_works : (k inc : ℕ) (d : Disk) (M : Moment) → Own (parts_in k inc d) M
none_works k inc d M u x found = by (is_own u (let c = (let t = parts_in k inc d in t.coord) in c.tree)) u.num found
  where
    by : (b : Bool) (j : ℕ) → cond b (at_place j []) None ≡ Some x → IsTiedAt M.past.askings M.seen.lines u x
    by false j is = absurd (none_is is)
    by true zero is = absurd (none_is is)
    by true (suc j) is = absurd (none_is is)

module _ (hd : Header) (G : Moment → Type 0) (steps : KeepsSteps hd G) (paths : (M : Moment) → G M → HasPaths M) where
  -- so much is known
  abbrev Both : Moment → Type 0
  Both M = G M × AskedAreTied M

  else_tied : (k : ℕ) (d : Disk) (t : Parts) (i : Input) (M : Moment) → is_else i ≡ true →
      ((l : Label) (q : Kind) (p : Option Label) → i ≢ input.Begin l q p) → refusal_up hd i t.coord ≡ None → Both (up k d t M) →
      (let did = does i d.intents t.coord in WalksWith AskedAreTied k did.outs (UpWith AskedAreTied k (with_coord t did.part)) d M)
  else_tied k d t i M is other free h =
      let q = paths (up k d t M) h.0 in
      let j = its k d t M q h.1 in
      let did = does i d.intents t.coord in
      turn_walk k d t M q h.1 IsGivenUp (with_coord t did.part) did.outs
      (acts_turn t.coord q.2.0 (paths_of q.2.0) (tree k d t M q h.1) j.coord hd i d.intents is free)
      (rise_of t.coord did.part (further_acts t.coord q.2.0 (paths_of q.2.0) (tree k d t M q h.1) j.coord (let u =
      j.its in u.numbered) i d.intents other))

  commit_tied : (k : ℕ) (d : Disk) (t : Parts) (l : Label) (M : Moment) → Brings M.past.event (input.Commit l) →
      refusal_up hd (input.Commit l) t.coord ≡ None → Both (up k d t M) → (let did = does (input.Commit l) d.intents t.coord in
      WalksWith AskedAreTied k did.outs (UpWith AskedAreTied k (with_coord t did.part)) d (asks_now (input.Commit l) t.coord M))
  commit_tied k d t l M brings free h =
      let q = paths (up k d t M) h.0 in
      let a = asking_of l t.coord M.past.run M.past.event in
      let N = record M { past = record M.past { askings = asking_of l t.coord M.past.run M.past.event ∷ M.past.askings } } in
      let j = its k d t M q h.1 in
      let did = does (input.Commit l) d.intents t.coord in
      turn_walk k d t N q (more_tied a (up k d t M) (λ m. ap (is_ask_by m) (brings_commit M.past.event l brings)) h.1)
      IsGivenUp (with_coord t did.part) did.outs
      (acts_turn t.coord q.2.0 (paths_of q.2.0) (tree k d t M q h.1) j.coord hd (input.Commit l) d.intents refl free)
      (rise_of t.coord did.part (further_acts t.coord q.2.0 (paths_of q.2.0) (tree k d t M q h.1) j.coord (let u =
      j.its in u.numbered) (input.Commit l)
      d.intents (λ m w p same. absurd (cc same))))

  act_tied : (k : ℕ) (d : Disk) (t : Parts) (i : Input) (M : Moment) → is_act i ≡ true → Brings M.past.event i → IsFirst M →
      refusal_up hd i t.coord ≡ None → Both (up k d t M) → (let did = does i d.intents t.coord in
      WalksWith AskedAreTied k did.outs (UpWith AskedAreTied k (with_coord t did.part)) d (asks_now i t.coord M))
  act_tied k d t (input.Call l x o) M is brings fresh free h = by (branch_named l t.coord) refl free
    where
      by : (f : Option Branch) → branch_named l t.coord ≡ f → refused_by (call_reasons hd x o) t.coord f ≡ None →
          (let did = on_branch (λ b. call b.path x o t.coord) t.coord f in
          WalksWith AskedAreTied k did.outs (UpWith AskedAreTied k (with_coord t did.part)) d (asks_now (input.Call l x o) t.coord M))
      by None named none = absurd (none_is (sym none))
      by (Some b) named none = call_walk k d t M (paths (up k d t M) h.0) h.1 hd fresh l b named x o none
          (brings_call M.past.event l x o brings)
  act_tied k d t (input.Include l x n) M is brings fresh free h = by (branch_named l t.coord) refl free
    where
      by : (f : Option Branch) → branch_named l t.coord ≡ f → refused_by (include_reasons hd x) t.coord f ≡ None →
          (let did = on_branch (λ b. include b.path x n t.coord) t.coord f in
          WalksWith AskedAreTied k did.outs (UpWith AskedAreTied k (with_coord t did.part)) d (asks_now (input.Include l x n) t.coord M))
      by None named none = absurd (none_is (sym none))
      by (Some b) named none = include_walk k d t M (paths (up k d t M) h.0) h.1 hd fresh l b named x n none
          (brings_include M.past.event l x n brings)
  act_tied k d t (input.Commit l) M is brings fresh free h = commit_tied k d t l M brings free h
  act_tied k d t (input.Abort l) M is brings fresh free h = else_tied k d t (input.Abort l) M refl (λ m q p same. absurd (cc same)) free h
  act_tied k d t (input.GiveUp l) M is brings fresh free h = else_tied k d t (input.GiveUp l) M refl (λ m q p same. absurd (cc same)) free h
  act_tied k d t i M is brings fresh free h = absurd (cc is)

  begin_tied : (k : ℕ) (d : Disk) (t : Parts) (l : Label) (how : Kind) (parent : Option Label) (M : Moment) →
      label_at l M.seen.labels ≡ None →
      Both (up k d t M) → (let did = begin_action l how parent (parent_of parent t.coord) t.coord in
      WalksWith AskedAreTied k did.outs (UpWith AskedAreTied k (with_coord t did.part)) d (given l (record {
        node = k;
        serial =
            is_serial how;
      }) M))
  begin_tied k d t l how parent M new h =
      let c = t.coord in
      let did = begin_action l how parent (parent_of parent c) c in
      let N = given l (record { node = k; serial = is_serial how }) M in
      let o = off_of k d (Some t) M h.1 in
      dumb_walk k (with_coord t did.part) did.outs d N (refl, tt) (record { others = o.others; new = o.new }) own
    where
      fresh : Doing
      fresh = record { label = l; req = 0; now = Idle; took = [] }

      q : HasPaths (up k d t M)
      q = paths (up k d t M) h.0

      not_there : act_in (acts M.seen.lines) (name l) ≡ None
      not_there =
          let w = q.2.1.1.2 in
          ap (λ xs. act_in xs (name l)) (sym (its_acts M.seen.lines w.right)) ∙ new_label M.seen.labels (let B =
          book M.seen.lines in B.acts) l new w.labels

      own : Own (with_coord t (let did = begin_action l how parent (parent_of parent t.coord) t.coord in did.part))
          (given l (record { node = k; serial = is_serial how }) M)
      own u x found = by (is_own u t.coord.tree) refl u.num found refl
        where
          by : (b : Bool) → is_own u t.coord.tree ≡ b → (j : ℕ) → cond b (at_place j (t.coord.doings ++ fresh ∷ [])) None ≡ Some x →
              u.num ≡ j → IsTiedAt M.past.askings M.seen.lines u x
          by false own j at same = absurd (none_is at)
          by true own zero at same = absurd (none_is at)
          by true own (suc j) at same = ⊎_elim {C = IsTiedAt M.past.askings M.seen.lines u x}
              (λ old. own_of k d t M h.1 u x ((λ i. cond (own i) (at_place (same i) t.coord.doings) None) ∙ old))
              (λ is. subst (IsTiedAt M.past.askings M.seen.lines u) is.1
              (let r = (let g = h.1 in g.new (name l) not_there) in ap length r.1 ∙ ap length (sym r.0)))
              (still_there fresh x t.coord.doings j at)

  -- what is asked and answered by then isn't looked at
  pub tied_step : KeepsSteps hd Both
  tied_step = record {
    quiet = λ bs M plain h. (steps.quiet bs M plain h.0, said_tied bs M (plain_lines bs plain) h.1);
    junk = λ n M fit h. (
      steps.junk n M fit h.0,
      (let s = said_tied (body.Sent (M.past.frames + 1) 0 n frame.Junk ∷ []) M (refl, tt) h.1 in record { tied = s.tied; new = s.new }),
    );
    stop = λ k d live M h. (steps.stop k d live M h.0, stop_tied k d M (off_of k d live M h.1));
    message = λ k d t v from m outs M h there meant may is.
        let q = paths (up k d t M) h.0 in
        let j = its k d t M q h.1 in
        let goes = subst (Handling.GoesSo (IsHeardIn from m) k d t from) is
        (goes_so (IsHeardIn from m) k d t from q.2.0 (paths_of q.2.0) (tree k d t M q h.1) j.coord
        (let u = j.its in u.numbered) m (λ w s g h. h)) in
        both k outs v d M (steps.message k d t v from m outs M h.0 there meant may is)
        (turn_walk k d t M q h.1 (IsHeardIn from m) v outs goes.0 goes.1);
    act = λ k d t i M is brings fresh asks free h. let did = does i d.intents t.coord in
        both k did.outs (with_coord t did.part) d (asks_now i t.coord M) (steps.act k d t i M is brings fresh asks free h.0)
        (act_tied k d t i M is brings fresh free h);
    begin = λ k d t l how parent M brings fresh new gives none h.
        let did = begin_action l how parent (parent_of parent t.coord) t.coord in
        both k did.outs (with_coord t did.part) d (given l (record { node = k; serial = is_serial how }) M)
        (steps.begin k d t l how parent M brings fresh new gives none h.0) (begin_tied k d t l how parent M new h);
    tick = λ k d t M h.
        let q = paths (up k d t M) h.0 in
        let r = again_all t.coord.doings t.coord in
        let outs = tick_outs (record { number = k; disk = d; live = Some t }) t in
        both k outs (with_coord t r.part) d M (steps.tick k d t M h.0) (turn_walk k d t M q h.1 IsGivenUp (with_coord t r.part) outs
        (RestsSo (tick_dumb k d t) (again_turn t.coord)) (rise_of t.coord r.part (further_again t.coord t.coord.doings)));
    restart = λ k d M event first h.
        both k (restart_outs hd k (d.inc + 1) d) (parts_in k (d.inc + 1) d) d M (steps.restart k d M event first h.0)
        (dumb_walk k (parts_in k (d.inc + 1) d) (restart_outs hd k (d.inc + 1) d) d M (restart_dumb hd k (d.inc + 1) d)
        (off_of k d None M h.1)
        (none_works k (d.inc + 1) d M));
  }
    where
      both : (k : ℕ) (outs : List Effect) (v : Parts) (d : Disk) (M : Moment) → WalksWith G k outs (UpWith G k v) d M →
          WalksWith AskedAreTied k outs (UpWith AskedAreTied k v) d M → WalksWith Both k outs (UpWith Both k v) d M
      both k outs v d M a b = with_both G AskedAreTied k outs (UpWith G k v) (UpWith AskedAreTied k v) d M a b

-- as an event comes, and as it is over
pub tied_opens : Opens AskedAreTied AskedAreTied
tied_opens e M first number h = record { tied = h.tied; new = h.new }

pub tied_closes : Closes AskedAreTied AskedAreTied
tied_closes bodies M number lines h = record { tied = h.tied; new = h.new }

-- at first nothing was asked
pub first_tied : (hd : Header) (st : Start) → AskedAreTied (record { past = Moments.no_history st; seen = see [] (world_from hd st) })
first_tied hd st = record {
  tied = λ j n t u x there live found. subst (λ (z : Parts). doing_of u z.coord ≡ Some x →
      IsTiedAt [] [] u x) (first_up hd st j n t there live)
      (none_works j (st.incs j + 1) (disk_by hd st j) (record {
        past = Moments.no_history st;
        seen =
            see [] (world_from hd st);
      }) u x) found;
  new = λ l none. (refl, refl);
}
