-- Whoever has ended where it began is over by the journal: it has an end there, or its node halted since.
use Rattle.arj_law_parts.proofs.Words
use Words.{◌≡◌, ◌∙◌, ◌==◌, ◌&&◌, ◌||◌, ◌++◌, ◌+◌, not, ℕ, Bool, true, false, cond, List, [], ◌∷◌, Option, Some, None, refl, sym, ap, subst}
use Words.{inl, inr, ⊎_elim, before_last, and_parts, eqb-true, is_some, list_any, In, in_from, in_to, is_on, is_serial, uids_of, Body}
use Words.{Doing, End, Kind, Line}
use Words.{Branch, Node, Parts, Seen, Uid, branch_of, doing_of, is_own, numbered}
use Words.ending
use Words.kind
use Rattle.arj_law_parts.proofs.parts.{Begun.begun_tree, Begun.on_more, Begun.on_own, Begun.path_found, GoodTrees.found_by}
use Rattle.arj_law_parts.proofs.parts.TrueSteps.{work_there}
use Rattle.arj_law_parts.specs.moves.Seen.{AreQuiet}
use Rattle.arj_law_parts.specs.parts.{Actions.Action, Actions.AreBegun, Actions.Stands, Actions.act_of, Actions.paths_of}
use Rattle.arj_law_parts.specs.parts.{Coords.IsGoodCoord}
use Rattle.arj_law_parts.specs.parts.Trees.{IsGoodTree}
use Rattle.arj_law_runs.proofs.Terms.{Act, Placed, acts, acts_after, book, read, put}
use Rattle.arj_law_runs.proofs.follow.Halts.{KnowsHalts, is_alive}
use Rattle.arj_law_runs.proofs.journal.{Models.its_acts, Models.its_end, Models.its_sound, Owners.acts_more, Paths.IsPathedOf}
use Rattle.arj_law_runs.proofs.kept.Walked.{same_number}
use Rattle.arj_law_runs.specs.journal.Book.{Book, is_over as over_in}
use Rattle.arj_law_runs.specs.journal.Knows.{IsEnd, IsKnown, IsWritten}
use Rattle.arj_law_runs.specs.journal.Paths.{AreAlike}
use Rattle.arj_law_runs.specs.kept.Worlds.{IsGoodOf, IsMemory, IsUp}
use Rattle.arj_law_serial.proofs.holding.Lines.{quiet_acts}
use Rattle.arj_law_serial.specs.past.Told.{IsClosedAt, IsPast, live_in}
use Rattle.arj_model.specs.Actions as model
use Rattle.arj_model.specs.Actions.{begun_of, ended, ended_of, halt_of, halts, has_end, is_halted, is_over}
use Rattle.arj_model.specs.CauseSpans.{act_by, holds_in}
use Rattle.arj_law_cause.proofs.kinds.Committed.{act_found}
use Rattle.arj_law_cause.proofs.rows.Holders.{alike_to}

-- by these lines an action with this Uid began, and is over
abbrev pub Ends : List Line → Uid → Type 0
Ends lines u = holds_in (is_over lines) (act_by lines u) ≡ true

-- ---- later lines

pub or_later : (p q r s : Bool) → (p ≡ true → r ≡ true) → (q ≡ true → s ≡ true) → (p || q) ≡ true → (r || s) ≡ true
or_later true q r s first last is = λ i. first refl i || s
or_later false q true s first last is = refl
or_later false q false s first last is = last is

put_later : {A : Type 0} (p : Placed A → Bool) (n : ℕ) (o : Option A) (xs ys : List (Placed A)) →
    (list_any p xs ≡ true → list_any p ys ≡ true) → list_any p (put n o xs) ≡ true → list_any p (put n o ys) ≡ true
put_later p n None xs ys more is = more is
put_later {A} p n (Some a) xs ys more is =
    let here : Placed A = record { at = n; it = a } in or_later (p here) (list_any p xs) (p here) (list_any p ys) (λ on. on) more is

pub read_later : {A : Type 0} (f : List Act → Body → Option A) (p : Placed A → Bool) (xs : List Act) (n : ℕ) (ls ms : List Line) →
    list_any p (read f xs n ls) ≡ true → list_any p (read f xs n (ls ++ ms)) ≡ true
read_later f p xs n [] ms is = absurd (cc is)
read_later f p xs n (l ∷ ls) ms is = put_later p n (f xs l.body) (read f (acts_after xs l.body) (n + 1) ls)
    (read f (acts_after xs l.body) (n + 1) (ls ++ ms)) (read_later f p (acts_after xs l.body) (n + 1) ls ms) is

pub over_later : (ls ms : List Line) (a : Act) → is_over ls a ≡ true → is_over (ls ++ ms) a ≡ true
over_later ls ms a is = or_later (has_end (ended ls) a.id) (is_halted (halts ls) a) (has_end (ended (ls ++ ms)) a.id)
    (is_halted (halts (ls ++ ms)) a)
    (read_later ended_of (λ (e : Placed ℕ). e.it == a.id) [] 0 ls ms)
    (read_later halt_of (λ (h : Placed model.Halt). (h.it.node == (let u = a.uid in u.node)) && Words.nat_lt a.id h.it.begun) [] 0 ls ms) is

-- who is over stays so, behind lines by which none begins
ends_later : (ls ms : List Line) (u : Uid) → acts (ls ++ ms) ≡ acts ls → Ends ls u → Ends (ls ++ ms) u
ends_later ls ms u same is = by (act_by ls u) (λ i. Words.find (λ (a : Act). Words.uid_eq a.uid u) (same i)) is
  where
    by : (o : Option Act) → act_by (ls ++ ms) u ≡ o → holds_in (is_over ls) o ≡ true → Ends (ls ++ ms) u
    by None found is = absurd (cc is)
    by (Some a) found is = ap (holds_in (is_over (ls ++ ms))) found ∙ over_later ls ms a is

pub ends_say : (ls : List Line) (e : ℕ) (b : Body) (u : Uid) → begun_of b ≡ None → Ends ls u → Ends (ls ++ numbered e (b ∷ [])) u
ends_say ls e b u none = ends_later ls (numbered e (b ∷ [])) u
    (acts_more [] ls (numbered e (b ∷ [])) ∙ ap (model.numbered (acts ls)) none)

pub ends_quiet : (ls : List Line) (e : ℕ) (bs : List Body) (u : Uid) → AreQuiet bs → Ends ls u → Ends (ls ++ numbered e bs) u
ends_quiet ls e bs u quiet = ends_later ls (numbered e bs) u (quiet_acts e bs quiet ls)

-- ---- actions that were begun

-- whoever is on a path was begun
on_begun : (begun : List Action) → AreBegun begun → (a : Action) → In a begun → (u : Uid) → is_on (uids_of a.path) u ≡ true →
    (b : Action) × In b begun × (act_of b ≡ u)
on_begun [] all a i u on = absurd i
on_begun (c ∷ begun) all a (inr i) u on = let r = on_begun begun all.1 a i u on in (r.0, inr r.1, r.2)
on_begun (c ∷ begun) all a (inl is) u on = by (on_begun begun all.1) c.kind (let b = all.0 in b.stands)
    (subst (λ (z : Action). is_on (uids_of z.path) u ≡ true) (sym is) on)
  where
    Found : Type 0
    Found = (b : Action) × In b (c ∷ begun) × (act_of b ≡ u)

    itself : act_of c ≡ u → Found
    itself same = (c, inl refl, same)

    alone : uids_of c.path ≡ act_of c ∷ [] → is_on (uids_of c.path) u ≡ true → Found
    alone e here = ⊎_elim {C = Found} (λ above. absurd (cc above)) itself
        (on_more [] (act_of c) u (subst (λ us. is_on us u ≡ true) e here))

    below : ((b : Action) → In b begun → (w : Uid) → is_on (uids_of b.path) w ≡ true → (d : Action) × In d begun × (act_of d ≡ w)) →
        (b : Action) → In b begun → uids_of c.path ≡ uids_of b.path ++ act_of c ∷ [] → is_on (uids_of c.path) u ≡ true → Found
    below older b j e here = ⊎_elim {C = Found} (λ above. let r = older b j u above in (r.0, inr r.1, r.2)) itself
        (on_more (uids_of b.path) (act_of c) u (subst (λ us. is_on us u ≡ true) e here))

    by : ((b : Action) → In b begun → (w : Uid) → is_on (uids_of b.path) w ≡ true → (d : Action) × In d begun × (act_of d ≡ w)) →
        (k : Kind) → Stands begun c k → is_on (uids_of c.path) u ≡ true → Found
    by older kind.Nested s here = below older s.0 (in_from s.0 begun s.1) s.3 here
    by older kind.Constituent s here = below older s.0 (in_from s.0 begun s.1) s.3 here
    by older kind.Top s here = alone s.0 here
    by older kind.Serial s here = alone s.0 here
    by older kind.Independent s here = alone s.0 here

-- an end that the coordinator has is an end by the book
end_over : (B : Book) (u : Uid) (k : Kind) (o : Option End) → IsEnd B u k o → is_some o ≡ true → over_in B u ≡ true
end_over B u k None is some = absurd (cc some)
end_over B u k (Some ending.Abort) is some = by (is_on B.committed u)
  where
    by : (b : Bool) → (b || (is_on B.aborted u || is_on B.ended u)) ≡ true
    by true = refl
    by false = λ i. is i || is_on B.ended u
end_over B u k (Some ending.Commit) is some = by (is_serial k) is
  where
    last : (x y : Bool) → (x || (y || true)) ≡ true
    last true y = refl
    last false true = refl
    last false false = refl

    by : (b : Bool) → cond b (is_on B.ended u) (is_on B.committed u) ≡ true →
        (is_on B.committed u || (is_on B.aborted u || is_on B.ended u)) ≡ true
    by true e = (λ i. is_on B.committed u || (is_on B.aborted u || e i)) ∙ last (is_on B.committed u) (is_on B.aborted u)
    by false e = λ i. e i || (is_on B.aborted u || is_on B.ended u)

or_true : (x : Bool) → (x || true) ≡ true
or_true true = refl
or_true false = refl

module _ (begun : List Action) (M : Seen) (pathed : IsPathedOf begun M) (tells : KnowsHalts M) where
  good : IsGoodOf begun M
  good = pathed.1.0

  written : IsWritten M
  written = pathed.1.2

  alike : AreAlike begun (acts M.lines)
  alike = subst (AreAlike begun) (its_acts M.lines written.right) pathed.1.1

  module _ (a : Action) (i : In a begun) (x : Act) (there : In x (acts M.lines)) (same : x.uid ≡ act_of a) where
    abbrev home : ℕ
    home = let u = x.uid in u.node

    abbrev its_inc : ℕ
    its_inc = let u = x.uid in u.inc

    gone : is_alive (M.nodes home) its_inc ≡ false → is_over M.lines x ≡ true
    gone off = (λ j. has_end (ended M.lines) x.id || (tells x there ∙ ap not off) j) ∙ or_true (has_end (ended M.lines) x.id)

    -- its node is up in its incarnation
    module _ (n : Node) (is : M.nodes home ≡ Some n) (t : Parts) (live : n.live ≡ Some t)
        (on : ((let d = n.disk in d.inc) == its_inc) ≡ true)
        (closed : (b : Branch) → branch_of x.uid t.coord.tree ≡ Some b → is_some b.ended ≡ true) where
      its : IsUp begun M.sent M.labels home (let d = n.disk in d.inc) t
      its = subst (IsMemory begun M.sent M.labels home (let d = n.disk in d.inc)) live (let p = good.places home n is in p.memory)

      own : is_own x.uid t.coord.tree ≡ true
      own = λ j. (ap (λ z. home == z) its.node ∙ same_number home) j
          && (ap (λ z. its_inc == z) (its.inc ∙ eqb-true (let d = n.disk in d.inc) its_inc on) ∙ same_number its_inc) j

      coord : IsGoodCoord begun (paths_of begun) t.coord
      coord = let g = its.good (paths_of begun) (begun_tree begun good.begun) (path_found begun good.begun) in g.coord

      branch : (b : Branch) × (branch_of (act_of a) t.coord.tree ≡ Some b) × (b.path ≡ a.path)
      branch = coord.home a (act_of a) (in_to a begun i) (on_own a.path) (ap (λ u. is_own u t.coord.tree) (sym same) ∙ own)

      found : branch_of x.uid t.coord.tree ≡ Some branch.0
      found = ap (λ u. branch_of u t.coord.tree) same ∙ branch.1

      doing : (q : Doing) × (doing_of x.uid t.coord ≡ Some q)
      doing = work_there t.coord (let f = its.faithful in f.works) x.uid branch.0 found

      known : IsKnown (book M.lines) x.uid (let b = branch.0 in b.kind) (let b = branch.0 in b.ended) (let q = doing.0 in q.label)
      known =
          let node = written.nodes home n is in
          let up = node.live t live in
          let k = up.knows in k.acts x.uid branch.0 doing.0 found doing.1

      here : is_over M.lines x ≡ true
      here = λ j. (its_end M.lines written.right x there ∙ end_over (book M.lines) x.uid (let b = branch.0 in b.kind)
          (let b = branch.0 in b.ended) known.end (closed branch.0 found)) j || is_halted (halts M.lines) x

    -- it is over where its node, while it is up, has no open one of it
    closed_over : IsClosedAt x.uid (live_in (M.nodes home)) → is_over M.lines x ≡ true
    closed_over = by (M.nodes home) refl
      where
        by : (o : Option Node) → M.nodes home ≡ o → IsClosedAt x.uid (live_in o) → is_over M.lines x ≡ true
        by None is closed = gone (ap (λ o. is_alive o its_inc) is)
        by (Some n) is closed = live n.live refl closed
          where
            live : (o : Option Parts) → n.live ≡ o → IsClosedAt x.uid o → is_over M.lines x ≡ true
            live None e c = gone (ap (λ o. is_alive o its_inc) is ∙ (λ j. is_some (e j) && ((let d = n.disk in d.inc) == its_inc)))
            live (Some t) e c = inc ((let d = n.disk in d.inc) == its_inc) refl
              where
                inc : (b : Bool) → ((let d = n.disk in d.inc) == its_inc) ≡ b → is_over M.lines x ≡ true
                inc false off = gone (ap (λ o. is_alive o its_inc) is ∙ (λ j. is_some (e j) && off j))
                inc true on = here n is t e on c

  -- so it is of an action's Uid
  pub closed_ends : (a : Action) → In a begun → IsClosedAt (act_of a) (live_in (M.nodes (let u = act_of a in u.node))) →
      Ends M.lines (act_of a)
  closed_ends a i closed =
      let r = alike_to begun (acts M.lines) alike a i in
      let s = its_sound M.lines written.right in
      ap (holds_in (is_over M.lines)) (act_found (acts M.lines) s.distinct r.0 r.1 (act_of a) r.2)
      ∙ closed_over a i r.0 r.1 r.2 (subst (λ (u : Uid). IsClosedAt u (live_in (M.nodes u.node))) (sym r.2) closed)

  pub past_ends : (u : Uid) → IsPast begun (λ j. live_in (M.nodes j)) u → Ends M.lines u
  past_ends u past =
      let named = past.0 in
      let r = on_begun begun good.begun named.0 (in_from named.0 begun named.1) u named.2 in
      subst (Ends M.lines) r.2
      (closed_ends r.0 r.1 (subst (λ (w : Uid). IsClosedAt w (live_in (M.nodes w.node))) (sym r.2) past.1))

  -- and of an action that began in a serializing one
  module _ (a s : Action) (i : In a begun) (path : uids_of a.path ≡ act_of s ∷ act_of a ∷ [])
      (closed : IsClosedAt (act_of s) (live_in (M.nodes (let u = act_of s in u.node)))) where
    abbrev place : ℕ
    place = let u = act_of a in u.node

    module _ (n : Node) (is : M.nodes place ≡ Some n) (t : Parts) (live : n.live ≡ Some t) where
      up : IsUp begun M.sent M.labels place (let d = n.disk in d.inc) t
      up = subst (IsMemory begun M.sent M.labels place (let d = n.disk in d.inc)) live (let p = good.places place n is in p.memory)

      tree : IsGoodTree (paths_of begun) t.coord.tree
      tree =
          let g = up.good (paths_of begun) (begun_tree begun good.begun) (path_found begun good.begun) in
          let c = g.coord in c.tree

      above : before_last (paths_of begun (act_of a)) ≡ Some (act_of s)
      above = ap before_last (path_found begun good.begun a (in_to a begun i) ∙ path)

      ended_below : (b : Branch) → branch_of (act_of a) t.coord.tree ≡ Some b → is_some b.ended ≡ true
      ended_below b found = tree.closed (act_of a) (act_of s) b p.0 found above p.1 its
        where
          p : (q : Branch) × (branch_of (act_of s) t.coord.tree ≡ Some q)
          p = let l = tree.lists in l.parents (act_of a) (act_of s) b found above

          home_is : (let u = act_of s in u.node) ≡ place
          home_is = eqb-true (let u = act_of s in u.node) t.coord.tree.node
              (and_parts ((let u = act_of s in u.node) == t.coord.tree.node) ((let u = act_of s in u.inc) == t.coord.tree.inc)
              (found_by (act_of s) t.coord.tree p.0 p.1).0).0 ∙ up.node

          its : is_some (let q = p.0 in q.ended) ≡ true
          its = subst (IsClosedAt (act_of s)) live (subst (λ o. IsClosedAt (act_of s) (live_in o)) is
              (subst (λ k. IsClosedAt (act_of s) (live_in (M.nodes k))) home_is closed)) p.0 p.1

    pub below_ends : Ends M.lines (act_of a)
    below_ends = closed_ends a i (by (M.nodes place) refl)
      where
        by : (o : Option Node) → M.nodes place ≡ o → IsClosedAt (act_of a) (live_in o)
        by None is = tt
        by (Some n) is = live n.live refl
          where
            live : (o : Option Parts) → n.live ≡ o → IsClosedAt (act_of a) o
            live None e = tt
            live (Some t) e = ended_below n is t e
