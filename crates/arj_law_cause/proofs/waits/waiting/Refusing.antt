-- In every run an event is refused by its lowest cause, as far as that asks whether an action is there, has ended, or waits.
use Rattle.arj_law_parts.proofs.Words
use Words.{◌≡◌, ◌∙◌, ◌&&◌, ◌||◌, not, ℕ, Bool, true, false, cond, List, [], ◌∷◌, Option, Some, None, refl, sym, ap, subst, is_some}
use Words.{list_all}
use Words.{and_parts, nat_le, Body, Event, Header, Label, Input, Node, Parts, World, Branch, Coord, Doing, Uid}
use Words.{at_place, branch_named, counted, first_reason, is_given, kind_below, lacks_op, name, node_in, node_of, reasons, refused_at}
use Words.{refused_by, see, sibling_waits, waits, waits_above, waits_below, actor, Move, class_at, has_many_objects}
use Words.{has_open_child, is_below_16, is_serial, Labelled, world_from, doing_of}
use Words.body
use Words.event
use Words.input
use Words.kind
use Rattle.arj_law_runs.proofs.follow.Along.{Ended, Outcome, Went, event_of, runs_along}
use Rattle.arj_law_runs.proofs.follow.Gone.{is_gone, is_gone_branch}
use Rattle.arj_law_runs.proofs.follow.Reasons.{joined, refused_by_any, same_first}
use Rattle.arj_law_runs.proofs.follow.Refusing as refusing
use Rattle.arj_law_runs.proofs.follow.Refusing.{Came, IsRefused, IsRun}
use Rattle.arj_law_runs.proofs.journal.Beginning.{named_at}
use Rattle.arj_law_runs.specs.follow.Refusals.{is_plain_cause, names_action}
use Rattle.arj_law_parts.specs.steps.Writes.{node_refusal}
use Rattle.arj_model.specs.Actions.{is_begun}
use Rattle.arj_model.specs.Last.{object_line}
use Rattle.arj_model.specs.Past.{Past, is_refused}
use Rattle.arj_model.specs.Refusals as model
use Rattle.arj_promise.specs.Runs.{HeaderFits, IsStoppedInForm}
use Rattle.arj_protocol.specs.Step.{refusal_at, refusal_up, is_misplaced}
use Rattle.arj_protocol.specs.Tree.{has_many_actions, is_too_deep}
use Rattle.arj_law_parts.specs.moves.Moments.{History, no_history}
use Rattle.arj_law_parts.specs.moves.With.{past_event}
use Rattle.arj_law_cause.proofs.waits.waiting.Acting as acting
use Rattle.arj_law_cause.proofs.waits.waiting.Near as near
use Rattle.arj_law_cause.proofs.waits.waiting.Running as running
use Rattle.arj_law_cause.proofs.waits.waiting.Running.{Leaves, Ran, Stopped}
use Rattle.arj_law_cause.proofs.waits.waiting.Reasons.{AreHigh, SameLow, one_low, same_low}
use Rattle.arj_law_cause.specs.waits.waiting.Refusals.{WaitingRefusalsFollow, WaitingRefusalsStep}
use Rattle.std.specs.Prelude.{is_none}

-- ---- numbers up to that of an end

abbrev is_early : Option ℕ → Bool
is_early None = false
is_early (Some c) = nat_le c 6

early_some : (o : Option ℕ) → is_early o ≡ true → (c : ℕ) × (o ≡ Some c) × (nat_le c 6 ≡ true)
early_some None is = absurd (cc is)
early_some (Some c) is = (c, refl, is)

-- behind a cause that is early, where none holds
pub late : (n : ℕ) (x : Bool) (o : Option ℕ) → nat_le n 6 ≡ true → is_early (cond x (Some n) o) ≡ false → (x ≡ false) × (is_early o ≡ false)
late n true o early isnt = absurd (cc (sym early ∙ isnt))
late n false o early isnt = (refl, isnt)

abbrev AreEarly : List (ℕ × Bool) → Type 0
AreEarly rs = list_all (λ (r : ℕ × Bool). nat_le r.0 6) rs ≡ true

none_early : (rs : List (ℕ × Bool)) (o : Option ℕ) → AreEarly rs → is_early (joined (first_reason rs) o) ≡ false → first_reason rs ≡ None
none_early [] o all isnt = refl
none_early (r ∷ rs) o all isnt = by r.1 refl isnt (λ e. none_early rs o parts.1 e)
  where
    parts : (nat_le r.0 6 ≡ true) × AreEarly rs
    parts = and_parts (nat_le r.0 6) (list_all (λ (q : ℕ × Bool). nat_le q.0 6) rs) all

    by : (b : Bool) → r.1 ≡ b → is_early (joined (cond b (Some r.0) (first_reason rs)) o) ≡ false →
        (is_early (joined (first_reason rs) o) ≡ false → first_reason rs ≡ None) → cond b (Some r.0) (first_reason rs) ≡ None
    by true is e rest = absurd (cc (sym parts.0 ∙ e))
    by false is e rest = rest e

-- the reasons of the world are early
world_early : (e : Event) (w : World) → names_action e ≡ true → AreEarly (reasons e w)
world_early (event.BeginIn l q) w its = refl
world_early (event.Top l q) w its = refl
world_early (event.Call l x o) w its = refl
world_early (event.Include l x n) w its = refl
world_early (event.Commit l) w its = refl
world_early (event.Abort l) w its = refl
world_early (event.GiveUp l) w its = refl
world_early e w its = absurd (cc its)

either_none : (a b : Bool) → (a || b) ≡ false → (a ≡ false) × (b ≡ false)
either_none true b is = absurd (cc is)
either_none false b is = (refl, is)

module _ (hd : Header) (form : HeaderFits hd) (m : Move) (g : History) (p : Past) (w : World) (stops : IsStoppedInForm m)
    (s : running.Stands hd form g p w) (on : w.over ≡ false) where
  abbrev e : Event
  e = event_of m

  abbrev t : World
  t = counted (record w { arms = m.falls })

  -- the run so far with the lines of the world
  past_is : p ≡ record p { lines = w.lines }
  past_is = λ i. record p { lines = s.base.base.lines i }

  -- ---- an action that is open, by its label

  pub record IsOpen (l : Label) : Type 0 where
    pub node : Node
    pub parts : Parts
    pub branch : Branch
    pub there : at_place (node_of l w) w.nodes ≡ Some node
    pub live : node.live ≡ Some parts
    pub named : branch_named l parts.coord ≡ Some branch
    pub opened : is_some branch.ended ≡ false
    pub above : model.waits_above p (name l) ≡ waits_above branch parts.coord
    pub near : model.waits_near p (name l) ≡ (waits_above branch parts.coord || waits_below branch parts.coord)
    pub commits : (model.waits_near p (name l) || model.commits_beside p (name l))
        ≡ ((waits_above branch parts.coord || waits_below branch parts.coord) || sibling_waits branch parts.coord)
    pub waits : model.is_waiting p (name l) ≡ waits parts.coord (actor branch.path)

  some_is : {A : Type 0} {a b : A} → Some a ≡ Some b → a ≡ b
  some_is {A} {a} {b} is = let k : ◌≡◌ {A = Option A} (Some a) (Some b) = is in cc

  pub open_at : (l : Label) → is_given l w ≡ true → model.has_ended p.lines (name l) ≡ false → IsOpen l
  open_at l given opened =
      let q = refusing.labelled_so hd form m p w stops s.base on l given in
      let at : at_place (node_of l w) w.nodes ≡ Some q.1 = ap (λ (o : Option Labelled). at_place (node_in o) w.nodes) q.2 ∙ q.3 in
      up q.1 at (let n = q.1 in n.live) refl (sym q.4 ∙ opened)
    where
      up : (n : Node) → at_place (node_of l w) w.nodes ≡ Some n → (o : Option Parts) → n.live ≡ o → is_gone l o ≡ false → IsOpen l
      up n at None live gone = absurd (cc gone)
      up n at (Some v) live gone = by (branch_named l v.coord) refl gone
        where
          k : ℕ
          k = node_of l w

          by : (f : Option Branch) → branch_named l v.coord ≡ f → is_gone_branch f ≡ false → IsOpen l
          by None named isnt = absurd (cc isnt)
          by (Some b) named isnt =
              let h = s.base.halts in
              let M = see h.sent w in
              let w_up = acting.up M h.holds (node_of l w) n v at live in
              let nm = named_at v.coord (let x = w_up.tops in x.names) l b named in
              let f = acting.stands M h.holds (node_of l w) n v at live nm.act nm.doing nm.does in
              let at_work = λ (u : Uid) (d : Doing) (does : doing_of u v.coord ≡ Some d).
              running.at_node hd form g p w s (node_of l w) n v u d at live does in
              let same : f.branch ≡ b = some_is (sym f.found ∙ nm.found) in
              let a = near.above_so M h.holds (node_of l w) n v at live p at_work nm.act nm.doing nm.does f in
              let c = near.near_so M h.holds (node_of l w) n v at live p at_work nm.act nm.doing nm.does f in
              let z = near.commits_so M h.holds (node_of l w) n v at live p at_work nm.act nm.doing nm.does f in
              let y = near.waits_here M h.holds (node_of l w) n v at live p at_work nm.act nm.doing nm.does f in
              record {
                node = n;
                parts = v;
                branch = b;
                there = at;
                live = live;
                named = named;
                opened = isnt;
                above = (λ i. model.waits_above (past_is i) ((sym nm.name_is) i)) ∙ a ∙ ap (λ x. waits_above x v.coord) same;
                near = (λ i. model.waits_near (past_is i) ((sym nm.name_is) i)) ∙ c
                    ∙ ap (λ x. waits_above x v.coord || waits_below x v.coord) same;
                commits =
                    (λ i. model.waits_near (past_is i) ((sym nm.name_is) i) || model.commits_beside (past_is i) ((sym nm.name_is) i)) ∙ z
                    ∙ ap (λ x. (waits_above x v.coord || waits_below x v.coord) || sibling_waits x v.coord) same;
                waits = (λ i. model.is_waiting (past_is i) ((sym nm.name_is) i)) ∙ y
                    ∙ ap (λ (x : Branch). waits v.coord (actor x.path)) same;
              }

  -- ---- the lowest cause

  -- An event about the action of this label, which one reason refuses behind those of labels and ends, and others with higher numbers.
  module _ (l : Label) (i : Input) (n : ℕ) (x : Bool) (cs : List (ℕ × Bool)) (y : Branch → Coord → Bool)
      (rs : Header → Branch → Coord → List (ℕ × Bool)) (high : AreHigh cs)
      (too : (h : Header) (b : Branch) (c : Coord) → AreHigh (rs h b c))
      (finds : (h : Header) (c : Coord) → refusal_up h i c ≡ refused_by (λ b d. (6, is_some b.ended) ∷ (n, y b d) ∷ rs h b d) c
      (branch_named l c))
      (same : (o : IsOpen l) → x ≡ y o.branch o.parts.coord) where
    -- the label's causes, where none is early
    label_low : is_early (first_reason (model.asks_known p (name l) ((n, x) ∷ cs))) ≡ false →
        SameLow (first_reason (model.asks_known p (name l) ((n, x) ∷ cs))) (refused_at i t (at_place (node_of l t) t.nodes))
    label_low isnt =
        let r = first_reason ((n, x) ∷ cs) in
        let a = late 5 (not (model.is_known p (name l)))
        (cond (model.was_given p.start (name l) || model.has_ended p.lines (name l)) (Some 6) r) refl isnt in
        let b = late 6 (model.was_given p.start (name l) || model.has_ended p.lines (name l)) r refl a.1 in
        let d = either_none (model.was_given p.start (name l)) (model.has_ended p.lines (name l)) b.0 in
        let known : is_begun p.lines (name l) ≡ true = (λ j. (sym d.0) j || is_begun p.lines (name l))
        ∙ not_false (model.is_known p (name l)) a.0 in
        let given : is_given l w ≡ true = sym (refusing.given_begun hd form w s.base.halts l) ∙ ap (λ ls. is_begun ls (name l))
        (sym s.base.base.lines) ∙ known in
        let o = open_at l given d.1 in
        let left : first_reason (model.asks_known p (name l) ((n, x) ∷ cs)) ≡ first_reason ((n, x) ∷ cs)
        = (λ j. cond (a.0 j) (Some 5) (cond (b.0 j) (Some 6) (first_reason ((n, x) ∷ cs)))) in
        let right : refused_at i t (at_place (node_of l t) t.nodes) ≡ first_reason ((n, y o.branch o.parts.coord)
        ∷ rs w.header o.branch o.parts.coord)
        = ap (refused_at i t) o.there ∙ ap (refusal_at w.header i) o.live ∙ finds w.header o.parts.coord
        ∙ ap (refused_by (λ b d. (6, is_some b.ended) ∷ (n, y b d) ∷ rs w.header b d) o.parts.coord) o.named
        ∙ (λ j. cond (o.opened j) (Some 6) (first_reason ((n, y o.branch o.parts.coord) ∷ rs w.header o.branch o.parts.coord))) in
        subst (λ z. SameLow z (refused_at i t (at_place (node_of l t) t.nodes))) (sym left)
        (subst (SameLow (first_reason ((n, x) ∷ cs))) (sym right)
        (one_low n x (y o.branch o.parts.coord) cs (rs w.header o.branch o.parts.coord) (same o) high
        (too w.header o.branch o.parts.coord)))
      where
        not_false : (x : Bool) → not x ≡ false → x ≡ true
        not_false true is = refl
        not_false false is = absurd (cc is)

  -- behind the cause of a label that was given, and of a node that isn't there
  behind_low : (n : ℕ) (x : Bool) (o r : Option ℕ) → nat_le n 6 ≡ true → is_early (cond x (Some n) o) ≡ false →
      (is_early o ≡ false → SameLow o r) → SameLow (cond x (Some n) o) r
  behind_low n x o r early isnt rest = let a = late n x o early isnt in
      subst (λ z. SameLow (cond z (Some n) o) r) (sym a.0) (rest a.1)

  -- an event that isn't refused early
  late_same : (x : Event) → names_action x ≡ true → is_early (first_reason (model.causes hd p x)) ≡ false →
      SameLow (first_reason (model.causes hd p x)) (node_refusal x t)
  late_same (event.BeginIn l q) its isnt =
      behind_low 4 (model.is_known p (name l)) (first_reason (model.asks_known p (name q) ((7, model.waits_above p (name q))
      ∷ (15, model.is_deep p.lines (name q)) ∷ (16, model.has_all_actions p.lines (name q)) ∷ [])))
      (refused_at (input.Begin l (kind_below q t) (Some q)) t (at_place (node_of q t) t.nodes)) refl isnt
      (label_low q (input.Begin l (kind_below q t) (Some q)) 7 (model.waits_above p (name q))
      ((15, model.is_deep p.lines (name q)) ∷ (16, model.has_all_actions p.lines (name q)) ∷ []) (λ b c. waits_above b c)
      (λ h b c. (10, is_misplaced (kind_below q t) b) ∷ (12, b.doomed) ∷ (15, is_below_16 (kind_below q t) && is_too_deep b)
      ∷ (16, is_below_16 (kind_below q t) && has_many_actions b c.tree) ∷ []) refl (λ h b c. refl) (λ h c. refl) (λ o. o.above))
  late_same (event.Top l q) its isnt =
      behind_low 4 (model.is_known p (name l)) (first_reason (model.asks_known p (name q) ((7, model.waits_above p (name q))
      ∷ (10, model.is_serializing p.lines (name q)) ∷ [])))
      (refused_at (input.Begin l kind.Independent (Some q)) t (at_place (node_of q t) t.nodes)) refl isnt
      (label_low q (input.Begin l kind.Independent (Some q)) 7 (model.waits_above p (name q))
      ((10, model.is_serializing p.lines (name q)) ∷ []) (λ b c. waits_above b c)
      (λ h b c. (10, is_misplaced kind.Independent b) ∷ (12, b.doomed) ∷ (15, is_below_16 kind.Independent && is_too_deep b)
      ∷ (16, is_below_16 kind.Independent && has_many_actions b c.tree) ∷ []) refl (λ h b c. refl) (λ h c. refl) (λ o. o.above))
  late_same (event.Call l x o) its isnt =
      label_low l (input.Call l x o) 7 (model.waits_near p (name l)) ((11, model.is_serializing p.lines (name l))
      ∷ (13, is_none (object_line hd x)) ∷ (14, model.lacks_op (object_line hd x) o) ∷ (16, model.is_too_many p (name l) x) ∷ [])
      (λ b c. waits_above b c || waits_below b c)
      (λ h b c. (11, is_serial b.kind) ∷ (12, b.doomed) ∷ (13, not (is_some (class_at x h))) ∷ (14, lacks_op o (class_at x h))
      ∷ (16, has_many_objects b x c.tree) ∷ []) refl (λ h b c. refl) (λ h c. refl) (λ z. z.near) isnt
  late_same (event.Include l x n) its isnt =
      behind_low 1 (not (model.is_node hd n)) (first_reason (model.asks_known p (name l) ((7, model.waits_near p (name l))
      ∷ (11, model.is_serializing p.lines (name l)) ∷ (13, is_none (object_line hd x)) ∷ (16, model.is_too_many p (name l) x) ∷ [])))
      (refused_at (input.Include l x n) t (at_place (node_of l t) t.nodes)) refl isnt
      (label_low l (input.Include l x n) 7 (model.waits_near p (name l)) ((11, model.is_serializing p.lines (name l))
      ∷ (13, is_none (object_line hd x)) ∷ (16, model.is_too_many p (name l) x) ∷ []) (λ b c. waits_above b c || waits_below b c)
      (λ h b c. (11, is_serial b.kind) ∷ (12, b.doomed) ∷ (13, not (is_some (class_at x h))) ∷ (16, has_many_objects b x c.tree) ∷ [])
      refl (λ h b c. refl) (λ h c. refl) (λ z. z.near))
  late_same (event.Commit l) its isnt =
      label_low l (input.Commit l) 7 (model.waits_near p (name l) || model.commits_beside p (name l))
      ((9, model.has_children p.lines (name l)) ∷ []) (λ b c. waits_above b c || waits_below b c || sibling_waits b c)
      (λ h b c. (9, has_open_child (actor b.path) c.tree) ∷ []) refl (λ h b c. refl) (λ h c. refl) (λ z. z.commits) isnt
  late_same (event.Abort l) its isnt =
      label_low l (input.Abort l) 7 (model.waits_near p (name l)) [] (λ b c. waits_above b c || waits_below b c) (λ h b c. []) refl
      (λ h b c. refl) (λ h c. refl) (λ z. z.near) isnt
  late_same (event.GiveUp l) its isnt =
      label_low l (input.GiveUp l) 8 (not (model.is_waiting p (name l))) [] (λ b c. not (waits c (actor b.path))) (λ h b c. []) refl
      (λ h b c. refl) (λ h c. refl) (λ z. ap not z.waits) isnt
  late_same x its isnt = absurd (cc its)

  named_same : names_action (event_of m) ≡ true → SameLow (model.refusal hd p (event_of m)) (refused_by_any (event_of m) t)
  named_same its = by (is_early (model.refusal hd p (event_of m))) refl (is_early (refused_by_any (event_of m) t)) refl
    where
      plain : (c : ℕ) → nat_le c 6 ≡ true → is_plain_cause (event_of m) c ≡ true
      plain c low = (λ j. not (its j) || low j)

      first : model.refusal hd p (event_of m) ≡ first_reason (model.causes hd p (event_of m))
      first = same_first (model.causes hd p (event_of m))

      by : (a : Bool) → is_early (model.refusal hd p (event_of m)) ≡ a → (b : Bool) → is_early (refused_by_any (event_of m) t) ≡ b →
          SameLow (model.refusal hd p (event_of m)) (refused_by_any (event_of m) t)
      by true is b also =
          let r = early_some (model.refusal hd p (event_of m)) is in
          same_low _ _ (r.1 ∙ sym ((refusing.same hd form m p w stops s.base on r.0 (plain r.0 r.2)).0 r.1))
      by false isnt true is =
          let r = early_some (refused_by_any (event_of m) t) is in
          same_low _ _ ((refusing.same hd form m p w stops s.base on r.0 (plain r.0 r.2)).1 r.1 ∙ sym r.1)
      by false isnt false also =
          let none = none_early (reasons (event_of m) t) (node_refusal (event_of m) t) (world_early (event_of m) t its) also in
          subst (λ x. SameLow x (refused_by_any (event_of m) t)) (sym first)
          (subst (SameLow (first_reason (model.causes hd p (event_of m)))) (sym (ap (λ o. joined o (node_refusal (event_of m) t)) none))
          (late_same (event_of m) its (ap is_early (sym first) ∙ isnt)))

  all_same : SameLow (model.refusal hd p (event_of m)) (refused_by_any (event_of m) t)
  all_same = by (names_action (event_of m)) refl
    where
      by : (b : Bool) → names_action (event_of m) ≡ b → SameLow (model.refusal hd p (event_of m)) (refused_by_any (event_of m) t)
      by true its = named_same its
      by false free = same_low _ _ (refusing.plain_same hd form m p w stops s.base on free)

  never : {A : Type 0} (c : ℕ) → ◌≡◌ {A = Option ℕ} None (Some c) → A
  never c no_way = absurd (cc no_way)

  same_line : (c d : ℕ) → ◌≡◌ {A = List Body} (body.Refused c ∷ []) (body.Refused d ∷ []) → c ≡ d
  same_line c d is = let k : c ≡ d = cc is in k

  same_some : (c d : ℕ) → ◌≡◌ {A = Option ℕ} (Some c) (Some d) → c ≡ d
  same_some c d is = let k : c ≡ d = cc is in k

  refused_so : (bodies : List Body) (c : ℕ) → is_refused bodies ≡ false → bodies ≡ body.Refused c ∷ [] → ⊥
  refused_so bodies c none is = let no_way : true ≡ false = sym (ap is_refused is) ∙ none in cc

  refuses_so : (bodies : List Body) → Came (event_of m) (let a = m.asked in a.arm) (counted (record w { arms = m.falls })) bodies →
      WaitingRefusalsStep hd p (event_of m) bodies
  refuses_so bodies (IsRefused d refused is) c low = (
    λ lowest. is ∙ ap (λ k. body.Refused k ∷ []) (same_some d c (sym refused ∙ (all_same c low).0 lowest)),
    λ line. (all_same c low).1 (refused ∙ ap Some (same_line d c (sym is ∙ line))),
  )
  refuses_so bodies (IsRun none isnt lines) c low =
      (λ lowest. never c (sym none ∙ (all_same c low).0 lowest), λ line. absurd (refused_so bodies c isnt line))

-- the run up to an event, with some history
abbrev pub Inv : (hd : Header) → HeaderFits hd → Past → World → Type 0
Inv hd form p w = (g : History) × running.Stands hd form g p w

pub goes : (hd : Header) (form : HeaderFits hd) (m : Move) (p : Past) (w : World) → IsStoppedInForm m → Inv hd form p w → w.over ≡ false →
    Outcome (WaitingRefusalsStep hd) (Inv hd form) m p w
goes hd form m p w stops s on = by (running.leaves hd form m s.0 p w stops s.1 on)
  where
    by : Leaves hd form m s.0 p w stops s.1 on → Outcome (WaitingRefusalsStep hd) (Inv hd form) m p w
    by (Ran bodies came after stands) = Went bodies (refuses_so hd form m s.0 p w stops s.1 on bodies came)
        (past_event m.asked (record w { arms = m.falls }) s.0, stands)
    by (Stopped over event lines past nodes) = Ended over event lines

pub refusals_follow : WaitingRefusalsFollow
refusals_follow hd r form =
    runs_along (WaitingRefusalsStep hd) (Inv hd form.header) IsStoppedInForm (λ p w s. let b = s.1 in b.base.base.lines)
    (λ p w s. let b = s.1 in b.base.base.count) (λ m p w stops s on. goes hd form.header m p w stops s on) r.start r.moves
    (world_from hd r.start) form.stops (no_history r.start, running.first_stands hd form.header r.start r.formed)
