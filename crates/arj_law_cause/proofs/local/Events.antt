-- The lines of an event come from steps of nodes.
use Rattle.arj_law_parts.proofs.Words
use Words.{◌≡◌, ◌⊎◌, ◌∙◌, ◌+◌, ◌<◌, ◌≤◌, ◌==◌, ◌&&◌, ◌++◌, not, ℕ, zero, suc, Bool, true, false, cond, List, [], ◌∷◌, refl, sym, ap}
use Words.{subst, nat_tests}
use Words.{arith, inl, inr, ⊎_elim, Option, Some, None, is_some, list_all, and_parts, append_assoc, append-nil, nat_le, nat_lt, Body, Event}
use Words.{Header, Label, FrameNo, Line, Move, Node, Parts, Input, World, Arm, at_place, as_delivered, change_frame, counted, deliver}
use Words.{deliver_frame, first_reason, frame_number, happens, is_frame, limited, most_frames, name, node_of, step, steps, step_node}
use Words.{⊤, AllByRecursion, numbers_to, node_numbers, show_all, numbered, map-append}
use Words.body
use Words.event
use Words.frame
use Words.input
use Rattle.std.specs.Prelude.{MatchOption}
use Rattle.arj_promise.specs.Runs.{HeaderFits}
use Rattle.arj_law_parts.proofs.moves.Reasons.{first_not, is_there, not_not}
use Rattle.arj_law_parts.specs.steps.Writes.{node_refusal}
use Rattle.arj_law_promise.proofs.settling.{Rights.right_keep, Stills.IsRight}
use Rattle.arj_law_parts.proofs.moves.Happens.{arms_hold, steps_hold}
use Rattle.arj_law_runs.proofs.addresses.Lists.{all_append}
use Rattle.arj_law_runs.proofs.Terms.{Act, Holds, act_in, acts, keeps_asked}
use Rattle.arj_law_runs.proofs.follow.Frames as frames
use Rattle.arj_law_runs.proofs.follow.Reasons.{joined, refused_by_any}
use Rattle.arj_law_runs.proofs.follow.Refusing.{Came, IsRefused, IsRun}
use Rattle.arj_law_runs.proofs.follow.Shorts as shorts
use Rattle.arj_model.specs.CausePends.{sends}
use Rattle.arj_law_runs.proofs.follow.Telling.{frame_test}
use Rattle.arj_law_runs.specs.follow.Shorts.{ShortEventsStep, is_short}
use Rattle.arj_model.specs.Follows.{Accepted, Step as ModelStep}
use Rattle.arj_model.specs.Own as own
use Rattle.arj_model.specs.Own.{MayMeetLimit, may_stand}
use Rattle.arj_model.specs.Past.{Past, block, is_refused}
use Rattle.arj_model.specs.Refusals as model
use Rattle.arj_promise.specs.Runs.{IsStoppedInForm}
use Rattle.arj_protocol.specs.World as world
use Rattle.arj_law_cause.proofs.follow.causes.{Reasons.finds_abort, Reasons.finds_call, Reasons.finds_commit, Reasons.finds_giveup}
use Rattle.arj_law_cause.proofs.follow.causes.{Reasons.finds_include}
use Rattle.arj_law_cause.proofs.follow.lines.Adding as adding
use Rattle.arj_law_cause.proofs.follow.lines.Fitting.{Limited, limit_parts, may_meet}
use Rattle.arj_law_cause.proofs.follow.lines.Saying.{Adds, Tells}
use Rattle.arj_law_cause.proofs.follow.lines.Several.{node_adds}
use Rattle.arj_law_cause.proofs.local.Handled.{IsHome}
use Rattle.arj_law_cause.proofs.local.Homes.{any_front, home, named_began}
use Rattle.arj_law_cause.proofs.local.Labels.{BeginsNone}
use Rattle.arj_law_cause.proofs.local.Steps.{AreOwn, IsTaken, act_any, frame_any, restart_any, show_any, tick_any}
use Rattle.arj_law_parts.proofs.coordinator.Trace.{Takes}
use Rattle.arj_law_cause.specs.told.Local.{AreSteps, LeavesVoid, Moves, NoNodes, NoStep, Takes as TakesFrame, began_at}
use Rattle.arj_law_cause.specs.told.Local.{begins_at}
use Rattle.arj_law_cause.specs.told.Local.{settles_none, is_for, is_own_line, moves_node}

none_less : (n : ℕ) → 0 ≤ n
none_less n = omega arith

itself : (n : ℕ) → (n == n) ≡ true
itself n = grind (arith, nat_tests)

-- the limit is no node's
pub last_steps : (ls : List Line) (e : Event) (after : ℕ) (last : List Body) → MayMeetLimit last → AreSteps ls e after last
last_steps ls e after last met = ⊎_elim (λ is. subst (AreSteps ls e after) (sym is) (NoStep after))
    (λ is. subst (AreSteps ls e after) (sym is) (NoNodes after _ [] refl (NoStep after))) met

-- numbers that rise from this one on
abbrev Rise : ℕ → List ℕ → Type 0
Rise from [] = ⊤
Rise from (k ∷ ns) = (from ≤ k) × Rise (k + 1) ns

rise_less : (from k : ℕ) (ns : List ℕ) → from ≤ k → Rise k ns → Rise from ns
rise_less from k [] less up = tt
rise_less from k (j ∷ ns) less up = (let at = up.0 in omega (arith, less, at), up.1)

rise_on : (from m : ℕ) (ns : List ℕ) → Rise from ns → AllByRecursion (λ (j : ℕ). j < m) ns → from ≤ m → Rise from (ns ++ m ∷ [])
rise_on from m [] up all less = (less, tt)
rise_on from m (j ∷ ns) up all less = (up.0, rise_on (j + 1) m ns up.1 all.1 (let at = all.0 in omega (arith, at)))

numbers_rise : (n : ℕ) → Rise 0 (numbers_to n) × AllByRecursion (λ (j : ℕ). j < suc n) (numbers_to n)
numbers_rise zero = (tt, tt)
numbers_rise (suc n) =
    let r = numbers_rise n in (
      rise_on 0 (suc n) (numbers_to n) r.0 r.1 (none_less (suc n)),
      all_append (λ (j : ℕ). j < suc (suc n)) (numbers_to n) (suc n ∷ []) (more (numbers_to n) r.1) (next n, tt),
    )
  where
    next : (n : ℕ) → suc n < suc (suc n)
    next n = omega arith

    more : (xs : List ℕ) → AllByRecursion (λ (j : ℕ). j < suc n) xs → AllByRecursion (λ (j : ℕ). j < suc (suc n)) xs
    more [] all = tt
    more (x ∷ xs) all = (let at = all.0 in omega (arith, at), more xs all.1)

module _ (hd : Header) (form : HeaderFits hd) (m : Move) (p : Past) (w : World) (stops : IsStoppedInForm m)
    (s : shorts.Stands hd form p w) (right : Holds hd IsRight w) (on : w.over ≡ false) (bodies : List Body) where
  abbrev t : World
  t = counted (record w { arms = m.falls })

  abbrev ls : List Line
  ls = p.lines ++ block (p.count + 1) bodies

  base : frames.Stands hd form p w
  base = s.base.base

  front : (more : List Line) × (ls ≡ w.lines ++ more)
  front = (block (p.count + 1) bodies, ap (λ xs. xs ++ block (p.count + 1) bodies) base.lines)

  homes : (k : ℕ) (n : Node) → at_place k w.nodes ≡ Some n → (v : Parts) → n.live ≡ Some v → IsHome ls k v
  homes k n there v live = home hd w right ls front k n there v live

  placed : (k : ℕ) (n : Node) → at_place k w.nodes ≡ Some n → n.number ≡ k
  placed k n there = (base.placed.nodes k n there).1

  world_none : (e : Event) → refused_by_any e t ≡ None → first_reason (world.reasons e t) ≡ None
  world_none e none = by (first_reason (world.reasons e t)) none
    where
      by : (o : Option ℕ) → joined o (node_refusal e t) ≡ None → o ≡ None
      by None is = refl
      by (Some c) is = let no_way : ◌≡◌ {A = Option ℕ} (Some c) None = is in absurd (cc no_way)

  node_none : (e : Event) → refused_by_any e t ≡ None → node_refusal e t ≡ None
  node_none e none = by (first_reason (world.reasons e t)) none
    where
      by : (o : Option ℕ) → joined o (node_refusal e t) ≡ None → node_refusal e t ≡ None
      by None is = is
      by (Some c) is = let no_way : ◌≡◌ {A = Option ℕ} (Some c) None = is in absurd (cc no_way)

  -- one node's lines, and the limit
  one_node : (e : Event) (k : ℕ) (n : Node) (v : World) → at_place k w.nodes ≡ Some n → moves_node ls e k ≡ true → Adds (AreOwn ls k) t v →
      w.lines ++ block t.event bodies ≡ (limited v).lines → AreSteps ls e 0 bodies
  one_node e k n v there moves adds lines =
      let l = limit_parts (AreOwn ls k) t v bodies adds lines in
      subst (AreSteps ls e 0) (sym l.parts)
      (Moves 0 k l.added l.last (none_less k) moves l.has (last_steps ls e (k + 1) l.last (may_meet (AreOwn ls k) t v bodies l)))

  -- the action of a label began at its node
  began : (l : Label) (k : ℕ) → own.node_of p.lines (name l) ≡ Some k → began_at ls (name l) k ≡ true
  began l k is = by (act_in (acts p.lines) (name l)) refl is
    where
      node : Option Act → Option ℕ
      node o = Words.option_map (λ (a : Act). (let u = a.uid in u.node)) o

      by : (o : Option Act) → act_in (acts p.lines) (name l) ≡ o → Words.option_map (λ (a : Act). (let u = a.uid in u.node)) o ≡ Some k →
          began_at ls (name l) k ≡ true
      by None found at = let no_way : ◌≡◌ {A = Option ℕ} None (Some k) = at in absurd (cc no_way)
      by (Some a) found at =
          let same : (let u = a.uid in u.node) ≡ k = cc at in
          any_front (λ (line : Line). begins_at (name l) k line.body) p.lines (block (p.count + 1) bodies)
          (subst (λ j. began_at p.lines (name l) j ≡ true) same (named_began p.lines (name l) a found))

  -- an input about an action
  asked : (e : Event) (l : Label) (i : Input) (q : adding.Asks hd form m p w stops s on l i) →
      ((n : Node) (v : Parts) → input.step_up i n v ≡ input.coord_did n v (Words.acts i (let d = n.disk in d.intents) v.coord)) →
      ((n : Node) → BeginsNone (Takes i (let d = n.disk in d.intents))) →
      moves_node ls e (node_of l t) ≡ began_at ls (name l) (node_of l t) →
      w.lines ++ block t.event bodies ≡ (limited (steps (node_of l t) i t)).lines → AreSteps ls e 0 bodies
  asked e l i q does none moves lines =
      let k = node_of l t in
      one_node e k q.node (steps k i t) q.there (moves ∙ began l k q.home)
      (node_adds (AreOwn ls k) k i t q.node q.there
      (subst (λ j. Tells (AreOwn ls j) j (let n = q.node in n.disk) (step t.header q.node i)) (placed k q.node q.there)
      (act_any ls q.node t.header i q.parts q.live q.free (does q.node q.parts) (none q.node)
      (subst (λ j. IsHome ls j q.parts) (sym (placed k q.node q.there)) (homes k q.node q.there q.parts q.live))))) lines

  -- ---- a frame that the script names

  delivered : (k : FrameNo) → refused_by_any (event.Deliver k) t ≡ None →
      w.lines ++ block t.event bodies ≡ (limited (deliver (frame_number k t) t)).lines → AreSteps ls (event.Deliver k) 0 bodies
  delivered k none lines =
      subst (AreSteps ls e 0) (sym l.parts) (⊎_elim taken void l.has)
    where
      e : Event
      e = event.Deliver k

      j : ℕ
      j = frame_number k t

      f : adding.Frames hd form m p w stops s on k
      f = adding.frame_there hd form m p w stops s on k
          (not_not (is_frame k t) (first_not 17 (not (is_frame k t)) [] (world_none e none)).0)

      to : ℕ
      to = let g = f.frame in g.to

      adds : Adds (IsTaken ls to j) t (deliver j t)
      adds =
          let g = f.frame in
          let v = change_frame j as_delivered g t in
          let a = node_adds (IsTaken ls to j) to (input.Frame j g.from g.message) v f.node f.place
          (subst (λ i. Tells (IsTaken ls i j) i (let n = f.node in n.disk) (step v.header f.node (input.Frame j g.from g.message)))
          (placed to f.node f.place)
          (frame_any ls f.node v.header j g.from g.message
          (λ x live. subst (λ i. IsHome ls i x) (sym (placed to f.node f.place)) (homes to f.node f.place x live)))) in
          subst (λ o. Adds (IsTaken ls to j) t (deliver_frame j t o)) (sym f.there)
          (record { added = a.added; lines = a.lines; event = a.event; has = a.has })

      l : Limited (IsTaken ls to j) t (deliver j t) bodies
      l = limit_parts (IsTaken ls to j) t (deliver j t) bodies adds lines

      rest : AreSteps ls e 0 l.last
      rest = last_steps ls e 0 l.last (may_meet (IsTaken ls to j) t (deliver j t) bodies l)

      its : is_for ls j to ≡ true
      its = any_front (λ (line : Line). sends (λ from at carried. at == to) j line.body) p.lines (block (p.count + 1) bodies)
          (base.tells.frames (λ from at carried. at == to) j ∙ ap (frame_test (λ from at carried. at == to)) f.there ∙ itself to)

      taken : ((own_lines : List Body) × (l.added ≡ body.Got j ∷ own_lines) × AreOwn ls to own_lines) → AreSteps ls e 0 (l.added ++ l.last)
      taken x = subst (λ bs. AreSteps ls e 0 (bs ++ l.last)) (sym x.1) (TakesFrame 0 j to x.0 l.last its x.2 rest)

      void : l.added ≡ body.Void j ∷ [] → AreSteps ls e 0 (l.added ++ l.last)
      void is = subst (λ bs. AreSteps ls e 0 (bs ++ l.last)) (sym is) (LeavesVoid 0 j l.last rest)

  -- a tick
  ticked : (k : ℕ) → w.lines ++ block t.event bodies ≡ (limited (steps k input.Tick t)).lines → refused_by_any (event.Tick k) t ≡ None →
      AreSteps ls (event.Tick k) 0 bodies
  ticked k lines none = by (at_place k t.nodes) refl up
    where
      up : world.is_up_at k t ≡ true
      up = not_not (world.is_up_at k t) (first_not 2 (not (world.is_up_at k t)) []
          (first_not 1 (not (world.is_node k t)) ((2, not (world.is_up_at k t)) ∷ []) (world_none (event.Tick k) none)).1).0

      by : (o : Option Node) → at_place k t.nodes ≡ o → world.is_up o ≡ true → AreSteps ls (event.Tick k) 0 bodies
      by None there is = absurd (cc is)
      by (Some n) there is = one_node (event.Tick k) k n (steps k input.Tick t) there (itself k)
          (node_adds (AreOwn ls k) k input.Tick t n there
          (subst (λ j. Tells (AreOwn ls j) j n.disk (step t.header n input.Tick)) (placed k n there)
          (tick_any ls n t.header (λ x live. subst (λ j. IsHome ls j x) (sym (placed k n there)) (homes k n there x live))))) lines

  -- a restart
  restarted : (k : ℕ) → w.lines ++ block t.event bodies ≡ (limited (steps k input.Restart t)).lines →
      refused_by_any (event.Restart k) t ≡ None → AreSteps ls (event.Restart k) 0 bodies
  restarted k lines none = by (at_place k t.nodes) refl
      (base.placed.places k (subst (λ (h : Header). model.is_node h k ≡ true) base.is node))
    where
      node : world.is_node k t ≡ true
      node = not_not (world.is_node k t) (first_not 1 (not (world.is_node k t)) ((3, world.is_up_at k t) ∷ [])
          (world_none (event.Restart k) none)).0

      by : (o : Option Node) → at_place k t.nodes ≡ o → is_some o ≡ true → AreSteps ls (event.Restart k) 0 bodies
      by None there is = absurd (cc is)
      by (Some n) there is = one_node (event.Restart k) k n (steps k input.Restart t) there (itself k)
          (node_adds (AreOwn ls k) k input.Restart t n there
          (subst (λ j. Tells (AreOwn ls j) j n.disk (step t.header n input.Restart)) (placed k n there)
          (restart_any ls n t.header))) lines

  -- ---- shows

  abbrev Leads : Event → ℕ → List Body → Type 0
  Leads e from bs = (rest : List Body) → ((j : ℕ) → AreSteps ls e j rest) → AreSteps ls e from (bs ++ rest)

  right_now : Holds hd IsRight t
  right_now =
      let h = arms_hold hd IsRight m.falls w right in record {
        sent = h.sent;
        stands = record {
          frames = h.stands.frames;
          junk = h.stands.junk;
          header = h.stands.header;
          numbers = h.stands.numbers;
          places = h.stands.places;
          labels = h.stands.labels;
        };
        holds = h.holds;
      }

  shows : (x : ℕ) (ns : List ℕ) (v : World) → Holds hd IsRight v → (from : ℕ) → Rise from ns →
      Adds (Leads (event.Show x) from) v (show_all x ns v)
  shows x [] v h from up = record { added = []; lines = sym (append-nil v.lines); event = refl; has = λ rest each. each from }
  shows x (k ∷ ns) v h from up = by (world.is_up_at k v) refl (λ u holds low rise. shows x ns u holds low rise)
    where
      e : Event
      e = event.Show x

      one : (o : Option Node) → at_place k v.nodes ≡ o → world.is_up o ≡ true → Adds (AreOwn ls k) v (steps k (input.Show x) v)
      one None there is = absurd (cc is)
      one (Some n) there is = node_adds (AreOwn ls k) k (input.Show x) v n there
          (subst (λ j. Tells (AreOwn ls j) j n.disk (step v.header n (input.Show x)))
          (h.stands.numbers k n there) (show_any ls n v.header x))

      both : (u z : World) → Adds (AreOwn ls k) v u → Adds (Leads e (k + 1)) u z → Adds (Leads e from) v z
      both u z a b = record {
        added = a.added ++ b.added;
        lines = b.lines ∙ (λ i. a.lines i ++ numbered (a.event i) b.added)
            ∙ append_assoc v.lines (numbered v.event a.added) (numbered v.event b.added)
            ∙ ap (λ xs. v.lines ++ xs) (sym (map-append (λ (c : Body). record { event = v.event; body = c }) a.added b.added));
        event = b.event ∙ a.event;
        has = λ rest each. subst (AreSteps ls e from) (sym (append_assoc a.added b.added rest))
            (Moves from k a.added (b.added ++ rest) up.0 refl a.has (b.has rest each));
      }

      by : (b : Bool) → world.is_up_at k v ≡ b →
          ((u : World) → Holds hd IsRight u → (low : ℕ) → Rise low ns → Adds (Leads e low) u (show_all x ns u)) →
          Adds (Leads e from) v (show_all x ns (cond b (steps k (input.Show x) v) v))
      by false off rest = rest v h from (rise_less from (k + 1) ns (let at = up.0 in omega (arith, at)) up.1)
      by true is rest = both (steps k (input.Show x) v) (show_all x ns (steps k (input.Show x) v)) (one (at_place k v.nodes) refl is)
          (rest (steps k (input.Show x) v) (steps_hold hd IsRight (keeps_asked hd IsRight (right_keep hd)) k (input.Show x) v h tt)
          (k + 1) up.1)

  showed : (x : ℕ) → w.lines ++ block t.event bodies ≡ (limited (show_all x (node_numbers t) t)).lines →
      AreSteps ls (event.Show x) 0 bodies
  showed x lines =
      let e = event.Show x in
      let v = show_all x (node_numbers t) t in
      let l = limit_parts (Leads e 0) t v bodies (shows x (node_numbers t) t right_now 0 (numbers_rise t.header.nodes).0) lines in
      subst (AreSteps ls e 0) (sym l.parts) (l.has l.last (λ j. last_steps ls e j l.last (may_meet (Leads e 0) t v bodies l)))

  -- ---- events that write lines of their own alone

  -- nothing stands between them and their end
  alone : (e : Event) → ((b : Body) → may_stand e b ≡ false) → (a : Accepted hd p e bodies) → bodies ≡ a.own ++ a.last
  alone e never a = a.parts ∙ ap (λ bs. a.own ++ (bs ++ a.last)) (none a.others a.only)
    where
      none : (bs : List Body) → list_all (may_stand e) bs ≡ true → bs ≡ []
      none [] all = refl
      none (b ∷ bs) all =
          let no_way : false ≡ true = sym (never b) ∙ (and_parts (may_stand e b) (list_all (may_stand e) bs) all).0 in absurd (cc no_way)

  -- one line that is a node's, or no node's
  one_line : (e : Event) (b : Body) (own_lines last : List Body) → bodies ≡ own_lines ++ last → own_lines ≡ b ∷ [] → last ≡ [] →
      AreSteps ls e 0 (b ∷ []) → AreSteps ls e 0 bodies
  one_line e b own_lines last is one none steps_so =
      subst (AreSteps ls e 0) (sym (is ∙ (λ i. one i ++ none i))) steps_so

  -- a node's line alone
  moved_line : (e : Event) (b : Body) (k : ℕ) → moves_node ls e k ≡ true → is_own_line ls k b ≡ true → AreSteps ls e 0 (b ∷ [])
  moved_line e b k moves its = Moves 0 k (b ∷ []) [] (none_less k) moves (λ i. its i && true) (NoStep (k + 1))

  junk_so : (n : ℕ) (bytes : List ℕ) (own_lines last : List Body) → bodies ≡ own_lines ++ last →
      (own_lines ≡ body.Sent (model.last_frame p.lines + 1) 0 n frame.Junk ∷ []) ⊎ (own_lines ≡ []) →
      own.Ends (event.Junk n bytes) own_lines last → AreSteps ls (event.Junk n bytes) 0 bodies
  junk_so n bytes [] last is begins ends = subst (AreSteps ls (event.Junk n bytes) 0) (sym is)
      (last_steps ls (event.Junk n bytes) 0 last (inr ends))
  junk_so n bytes (b ∷ own_lines) last is (inl one) ends = one_line (event.Junk n bytes) _ (b ∷ own_lines) last is one ends
      (NoNodes 0 _ [] refl (NoStep 0))
  junk_so n bytes (b ∷ own_lines) last is (inr none) ends = absurd (cc none)

  began_below : (e : Event) (l q : Label) (a : Accepted hd p e bodies) → ((b : Body) → may_stand e b ≡ false) → a.last ≡ [] →
      ((k : ℕ) → moves_node ls e k ≡ began_at ls (name q) k) → (how : Words.Kind) → own.BeginsBelow p l q how a.own → AreSteps ls e 0 bodies
  began_below e l q a never none moves how below =
      one_line e _ a.own a.last (alone e never a) below.2 none
      (moved_line e _ below.0 (moves below.0 ∙ began q below.0 below.1) (itself below.0))

  short_so : (e : Event) → is_short e ≡ true → refused_by_any e t ≡ None → Accepted hd p e bodies → AreSteps ls e 0 bodies
  short_so (event.Begin l n) short none a = let e = event.Begin l n in
      one_line e _ a.own a.last (alone e (λ b. refl) a) a.begins a.ends (moved_line e _ n (itself n) (itself n))
  short_so (event.Serial l n) short none a = let e = event.Serial l n in
      one_line e _ a.own a.last (alone e (λ b. refl) a) a.begins a.ends (moved_line e _ n (itself n) (itself n))
  short_so (event.Crash n) short none a = let e = event.Crash n in
      one_line e _ a.own a.last (alone e (λ b. refl) a) a.begins a.ends (moved_line e _ n (itself n) (itself n))
  short_so (event.Lose k) short none a = let e = event.Lose k in
      one_line e _ a.own a.last (alone e (λ b. refl) a) a.begins a.ends (NoNodes 0 _ [] refl (NoStep 0))
  short_so (event.Stop n c how) short none a = let e = event.Stop n c how in
      one_line e _ a.own a.last (alone e (λ b. refl) a) a.begins a.ends (NoNodes 0 _ [] refl (NoStep 0))
  short_so (event.Junk n bytes) short none a = let e = event.Junk n bytes in
      junk_so n bytes a.own a.last (alone e (λ b. refl) a) a.begins a.ends
  short_so e short none a = absurd (cc short)

  -- a step of an event that isn't refused
  accepted_of : (e : Event) → is_refused bodies ≡ false → ModelStep hd p e bodies → Accepted hd p e bodies
  accepted_of e isnt x = ⊎_elim (λ o. by (model.refusal hd p e) o) (λ d. absurd (never 12 d.line)) x.lines
    where
      never : (c : ℕ) → bodies ≡ body.Refused c ∷ [] → ⊥
      never c is = let no_way : true ≡ false = sym (ap is_refused is) ∙ isnt in cc

      by : (o : Option ℕ) → MatchOption o (Accepted hd p e bodies) (λ c. bodies ≡ body.Refused c ∷ []) → Accepted hd p e bodies
      by None a = a
      by (Some c) is = absurd (never c is)

  -- ---- each event at one node

  ran_so : (e : Event) (a : Arm) → settles_none e ≡ true → ShortEventsStep hd p e bodies → refused_by_any e t ≡ None →
      is_refused bodies ≡ false → w.lines ++ block t.event bodies ≡ (limited (happens e a t)).lines → AreSteps ls e 0 bodies
  ran_so (event.Begin l n) a one x none isnt lines = let e = event.Begin l n in short_so e refl none (accepted_of e isnt (x.short refl))
  ran_so (event.Serial l n) a one x none isnt lines = let e = event.Serial l n in short_so e refl none (accepted_of e isnt (x.short refl))
  ran_so (event.Lose k) a one x none isnt lines = let e = event.Lose k in short_so e refl none (accepted_of e isnt (x.short refl))
  ran_so (event.Crash n) a one x none isnt lines = let e = event.Crash n in short_so e refl none (accepted_of e isnt (x.short refl))
  ran_so (event.Stop n c k) a one x none isnt lines = let e = event.Stop n c k in short_so e refl none (accepted_of e isnt (x.short refl))
  ran_so (event.Junk n c) a one x none isnt lines = let e = event.Junk n c in short_so e refl none (accepted_of e isnt (x.short refl))
  ran_so (event.BeginIn l q) a one x none isnt lines = let z = x.below refl isnt in
      began_below (event.BeginIn l q) l q z (λ b. refl) z.ends (λ k. refl) _ z.begins
  ran_so (event.Top l q) a one x none isnt lines = let z = x.below refl isnt in
      began_below (event.Top l q) l q z (λ b. refl) z.ends (λ k. refl) _ z.begins
  ran_so (event.Call l x o) a one z none isnt lines = let e = event.Call l x o in
      asked e l (input.Call l x o) (adding.asks_so hd form m p w stops s on l (input.Call l x o) (finds_call l x o)
      (is_there l t (world_none e none)) (node_none e none)) (λ n v. refl) (λ n. tt) refl lines
  ran_so (event.Include l x n) a one z none isnt lines = let e = event.Include l x n in
      asked e l (input.Include l x n) (adding.asks_so hd form m p w stops s on l (input.Include l x n) (finds_include l x n)
      (is_there l t (first_not 1 (not (world.is_node n t)) ((5, not (world.is_known l t)) ∷ (6, world.was_given l t) ∷ [])
      (world_none e none)).1)
      (node_none e none)) (λ n v. refl) (λ n. tt) refl lines
  ran_so (event.Commit l) a one z none isnt lines = let e = event.Commit l in
      asked e l (input.Commit l) (adding.asks_so hd form m p w stops s on l (input.Commit l) (finds_commit l)
      (is_there l t (world_none e none)) (node_none e none)) (λ n v. refl) (λ n. tt) refl lines
  ran_so (event.Abort l) a one z none isnt lines = let e = event.Abort l in
      asked e l (input.Abort l) (adding.asks_so hd form m p w stops s on l (input.Abort l) (finds_abort l)
      (is_there l t (world_none e none)) (node_none e none)) (λ n v. refl) (λ n. tt) refl lines
  ran_so (event.GiveUp l) a one z none isnt lines = let e = event.GiveUp l in
      asked e l (input.GiveUp l) (adding.asks_so hd form m p w stops s on l (input.GiveUp l) (finds_giveup l)
      (is_there l t (world_none e none)) (node_none e none)) (λ n v. refl) (λ n. tt) refl lines
  ran_so (event.Deliver k) a one x none isnt lines = delivered k none lines
  ran_so (event.Tick n) a one x none isnt lines = ticked n lines none
  ran_so (event.Restart n) a one x none isnt lines = restarted n lines none
  ran_so (event.Show y) a one x none isnt lines = showed y lines
  ran_so e a one x none isnt lines = absurd (cc one)

  pub event_so : (e : Event) (a : Arm) → settles_none e ≡ true → ShortEventsStep hd p e bodies → Came e a t bodies → AreSteps ls e 0 bodies
  event_so e a one x (IsRefused c refused is) = subst (AreSteps ls e 0) (sym is) (NoNodes 0 (body.Refused c) [] refl (NoStep 0))
  event_so e a one x (IsRun none isnt lines) = ran_so e a one x none isnt lines
