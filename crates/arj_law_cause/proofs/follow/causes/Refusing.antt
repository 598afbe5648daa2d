-- In every run the refusals that go by the tree of actions are those that the journal has causes for.
use Rattle.arj_law_parts.proofs.Words
use Words.{◌≡◌, ◌∙◌, ◌≤◌, ◌&&◌, not, ◌==◌, ℕ, Bool, true, false, List, [], ◌∷◌, refl, sym, ap, Option, Some, None, nat_lt, and_parts}
use Words.{name, at_place, Body, Event, Header, Label, Node, Parts, World, Branch, Labelled, Arm, branch_named, counted, is_given}
use Words.{is_serial, kind_below, node_in, node_of, world_from, Move, journal_by, IsInForm, Start}
use Words.body
use Words.kind
use Rattle.arj_law_runs.proofs.Terms.{Act, Holds, keeps_asked, label_at}
use Rattle.arj_law_parts.proofs.moves.Happens.{first_asked}
use Rattle.arj_law_parts.proofs.moves.Moving.{move_asked}
use Rattle.arj_law_runs.proofs.coordinators.RunCoords.{IsSo, all_keep_so}
use Rattle.arj_law_runs.proofs.follow.Along.{Ended, Outcome, Went, event_of, runs_along}
use Rattle.arj_law_runs.proofs.follow.Frames as frames
use Rattle.arj_law_runs.proofs.follow.Gone.{its_action}
use Rattle.arj_law_runs.proofs.follow.Reasons.{refused_by_any}
use Rattle.arj_law_runs.proofs.follow.Refusing as refusing
use Rattle.arj_law_runs.proofs.follow.Refusing.{Came, IsRefused, IsRun}
use Rattle.arj_law_runs.specs.follow.Frames.{FramesStep, run_events}
use Rattle.arj_law_runs.specs.follow.Refusals.{names_action}
use Rattle.arj_law_cause.proofs.follow.causes.{Counting.Counts, Counting.counts_kept, Reasons.Has, Reasons.agrees, Trees.children_so}
use Rattle.arj_law_cause.proofs.follow.causes.{Trees.deep_so, Trees.many_so, Trees.serial_so}
use Rattle.arj_law_cause.specs.follow.causes.Refusals.{TreeRefusalsStep, asks_object, doomed, is_met, is_tree_cause, not_waiting, too_many}
use Rattle.arj_model.specs.Follows.{Runs}
use Rattle.arj_model.specs.Past.{Past, at_start, is_refused}
use Rattle.arj_model.specs.Refusals as model
use Rattle.arj_promise.specs.Runs.{HeaderFits, IsStoppedInForm, Run}
use Rattle.arj_promise.specs.Starts.{IsFormed}
use Rattle.arj_protocol.specs.Step.{is_misplaced}

module _ (hd : Header) (form : HeaderFits hd) where
  -- a run up to an event, whose coordinators count their actions
  pub record Stands (p : Past) (w : World) : Type 0 where
    pub base : refusing.Stands hd form p w
    pub counts : Holds hd (IsSo Counts counts_kept) w

  module _ (m : Move) (p : Past) (w : World) (stops : IsStoppedInForm m) (s : Stands p w) (on : w.over ≡ false) where
    abbrev e : Event
    e = event_of m

    abbrev arm : Arm
    arm = let a = m.asked in a.arm

    abbrev t : World
    t = counted (record w { arms = m.falls })

    -- where a label that was given stands
    given_at : (l : Label) → is_given l t ≡ true →
        (g : Labelled) × (n : Node) × (label_at l t.labels ≡ Some g) × (at_place (node_of l t) t.nodes ≡ Some n)
        × (at_place g.node t.nodes ≡ Some n)
    given_at l given =
        let r = refusing.labelled_so hd form m p w stops s.base on l given in
        (r.0, r.1, r.2, ap (λ o. at_place (node_in o) t.nodes) r.2 ∙ r.3, r.3)

    there : (l : Label) → is_given l t ≡ true → (n : Node) × (at_place (node_of l t) t.nodes ≡ Some n)
    there l given = let r = given_at l given in (r.1, r.3)

    has : (l : Label) (n : Node) (v : Parts) (b : Branch) → is_given l t ≡ true → at_place (node_of l t) t.nodes ≡ Some n →
        n.live ≡ Some v → branch_named l v.coord ≡ Some b → Has p l b v.coord
    has l n v b given at live named =
        let h = s.base.halts in
        let f = s.base.finds in
        let k = node_of l t in
        let lines = s.base.base.lines in
        let counts = (let c = s.counts.holds in c.1) k n v at live in
        record {
          serial = ap (λ ls. model.is_serializing ls (name l)) lines ∙ serial_so hd w h f k n at v live l b named;
          deep = ap (λ ls. model.is_deep ls (name l)) lines ∙ deep_so hd w h f k n at v live l b named;
          children = ap (λ ls. model.has_children ls (name l)) lines ∙ children_so hd w h f k n at v live l b named;
          many = ap (λ ls. model.has_all_actions ls (name l)) lines ∙ many_so hd w h f k n at v live l b named counts;
        }

    -- what begins in an action is of the kind that fits it
    below : (l : Label) (n : Node) (v : Parts) (b : Branch) → is_given l t ≡ true → at_place (node_of l t) t.nodes ≡ Some n →
        n.live ≡ Some v → branch_named l v.coord ≡ Some b → is_misplaced (kind_below l t) b ≡ false
    below l n v b given at live named =
        let r = given_at l given in
        let a = its_action hd w s.base.halts s.base.finds l r.0 r.2 r.1 r.4 in
        let serial : is_serial b.kind ≡ (let g = r.0 in g.serial)
        = sym (serial_so hd w s.base.halts s.base.finds (node_of l t) n at v live l b named)
        ∙ ap (model.holds_of (λ (x : Act). is_serial x.kind)) a.1 ∙ a.3 in
        ap (λ o. is_misplaced (Words.world.kind_in o) b) r.2 ∙ by (let g = r.0 in g.serial) serial
      where
        by : (x : Bool) → is_serial b.kind ≡ x → is_misplaced (Words.cond x kind.Constituent kind.Nested) b ≡ false
        by true is = ap not is
        by false is = refl

    parts : (c : ℕ) → is_tree_cause e c ≡ true → (names_action e ≡ true) × (nat_lt not_waiting c ≡ true) × (not (c == doomed) ≡ true)
        × (not (asks_object e && (c == too_many)) ≡ true)
    parts c is =
        let a = and_parts (names_action e) (nat_lt not_waiting c && (not (c == doomed) && not (asks_object e && (c == too_many)))) is in
        let b = and_parts (nat_lt not_waiting c) (not (c == doomed) && not (asks_object e && (c == too_many))) a.1 in
        let d = and_parts (not (c == doomed)) (not (asks_object e && (c == too_many))) b.1 in
        (a.0, b.0, d.0, d.1)

    pub follows : (bodies : List Body) → Came e arm t bodies → TreeRefusalsStep hd p e bodies
    follows bodies came c tree = by came
      where
        q : (names_action e ≡ true) × (nat_lt not_waiting c ≡ true) × (not (c == doomed) ≡ true)
            × (not (asks_object e && (c == too_many)) ≡ true)
        q = parts c tree

        so : (refused_by_any e t ≡ Some c → is_met c (model.causes hd p e) ≡ true)
            × (is_met c (model.causes hd p e) ≡ true → (d : ℕ) × (d ≤ c) × (refused_by_any e t ≡ Some d))
        so = agrees hd p t s.base.base.is has below there c q.1 q.2 e q.0 q.3

        same_line : (d : ℕ) → ◌≡◌ {A = List Body} (body.Refused d ∷ []) (body.Refused c ∷ []) → d ≡ c
        same_line d is = let k : d ≡ c = cc is in k

        some_is : (a d : ℕ) → Some a ≡ Some d → a ≡ d
        some_is a d is = let k : ◌≡◌ {A = Option ℕ} (Some a) (Some d) = is in cc

        by : Came e arm t bodies → (bodies ≡ body.Refused c ∷ [] → is_met c (model.causes hd p e) ≡ true)
            × (is_met c (model.causes hd p e) ≡ true → (d : ℕ) × (d ≤ c) × (bodies ≡ body.Refused d ∷ []))
        by (IsRefused d refused is) = (
          λ line. so.0 (refused ∙ ap Some (same_line d (sym is ∙ line))),
          λ met. let r = so.1 met in (r.0, r.1, is ∙ ap (λ k. body.Refused k ∷ []) (some_is d r.0 (sym refused ∙ r.2))),
        )
        by (IsRun none isnt lines) = (
          λ line. let no_way : true ≡ false = sym (ap is_refused line) ∙ isnt in absurd (cc no_way),
          λ met. let r = so.1 met in let no_way : ◌≡◌ {A = Option ℕ} None (Some r.0) = sym none ∙ r.2 in absurd (cc no_way),
        )

    pub goes : Outcome (TreeRefusalsStep hd) Stands m p w
    goes = by (frames.goes hd form m p w stops s.base.base on)
      where
        by : Outcome (FramesStep hd) (frames.Stands hd form) m p w → Outcome (TreeRefusalsStep hd) Stands m p w
        by (Ended over event lines) = Ended over event lines
        by (Went bodies step after) =
            let g = refusing.goes_with hd form m p w stops s.base on bodies after in
            Went bodies (follows bodies g.0) (record {
              base = g.1;
              counts = move_asked hd (IsSo Counts counts_kept)
                  (keeps_asked hd (IsSo Counts counts_kept) (all_keep_so Counts counts_kept hd)) m w
                  s.counts;
            })

  pub first_stands : (st : Start) → IsFormed hd st → Stands (at_start st) (world_from hd st)
  first_stands st formed = record {
    base = refusing.first_stands hd form st formed;
    counts = first_asked hd st (IsSo Counts counts_kept) formed
        (keeps_asked hd (IsSo Counts counts_kept) (all_keep_so Counts counts_kept hd));
  }

pub trees_are_followed : (hd : Header) (r : Run hd) → IsInForm hd r →
    Runs (TreeRefusalsStep hd) r.start (run_events hd r) (journal_by hd r)
trees_are_followed hd r form =
    runs_along (TreeRefusalsStep hd) (Stands hd form.header) IsStoppedInForm (λ p w s. s.base.base.lines) (λ p w s. s.base.base.count)
    (λ m p w stops s on. goes hd form.header m p w stops s on) r.start r.moves (world_from hd r.start) form.stops
    (first_stands hd form.header r.start r.formed)
