-- An action ends, with its line: its coordinator knows the book after it.
use Rattle.arj_law_parts.proofs.Words
use Words.{◌≡◌, ◌≢◌, ◌⊎◌, ◌||◌, ℕ, List, [], ◌∷◌, ◌++◌, length, Bool, true, false, cond, nat_le, Option, Some, None, refl, sym, ◌∙◌, ap}
use Words.{subst, inl, inr, ⊎_elim, if◌then◌else◌, uid_cases, is_on, Uid, Body, Cause, End, Kind, Label, name, uids_of, Machine, Committing}
use Words.{Coord, Doing, Idle, Now, change_doing, doing_of, on_doing, set_doing, ended, is_committing_now, Branch, Tree, at_place}
use Words.{branch_of, ended_at, ended_branch, ends_of, family_of, is_own, root_of, with_family, is_serial}
use Words.body
use Words.ending
use Rattle.arj_law_runs.proofs.Terms
use Terms.{Act, act_in, on_tree, after as ended_tree, after_cases, at_others, at_u, ended_b, doing_other, doing_put, end_tree_on}
use Terms.{Book, is_decided, is_over, is_top, turned, AreSaid, Calls, EachRecord, IsAbout, IsEnd, IsKnown, Knows, Ties, decides, root_in}
use Terms.{IsOpen, IsOpenPlain, IsSaid, Right, option_map}
use Rattle.arj_law_parts.proofs.parts.GoodTrees.{ends_after, marked, was_there}
use Rattle.arj_law_runs.proofs.coordinators.CoordUses.{on_roots}
use Rattle.arj_law_runs.proofs.journal
use journal.{Effects.all_both, Effects.are_later, Likes.some_is, Ties.SameTies, Ties.ties_on}
use journal.Books.{decided_later, later_turn, named_is, on_here, on_other}

-- ---- lines

-- of another action than this one both books say the same
pub record SaysSame (B V : Book) (w : Uid) : Type 0 where
  pub called : is_on V.called w ≡ is_on B.called w
  pub committed : is_on V.committed w ≡ is_on B.committed w
  pub aborted : is_on V.aborted w ≡ is_on B.aborted w
  pub ended : is_on V.ended w ≡ is_on B.ended w
  pub found : is_on V.found w ≡ is_on B.found w

-- an action's end as another book has it that says the same of it
pub end_same : (B V : Book) (w : Uid) (k : Kind) (o : Option End) → SaysSame B V w → IsEnd B w k o → IsEnd V w k o
end_same B V w k None s is = ((λ i. s.committed i || (s.aborted i || s.ended i)) ∙ is.0, s.found ∙ is.1)
end_same B V w k (Some ending.Commit) s is = (λ i. if is_serial k then s.ended i else s.committed i) ∙ is
end_same B V w k (Some ending.Abort) s is = s.aborted ∙ is

-- A line that ends the action at node n.
pub record Ends (n : ℕ) (B : Book) (u : Uid) (k : Kind) (e : End) (b : Body) : Type 0 where
  pub right : Right B b
  pub about : IsAbout n B b
  pub acts : (let V = turned B b in V.acts) ≡ B.acts
  pub accesses : (let V = turned B b in V.accesses) ≡ B.accesses
  pub others : (w : Uid) → w ≢ u → SaysSame B (turned B b) w
  pub here : IsEnd (turned B b) u k (Some e)
  pub only : (x : Uid) → decides B b ≡ Some x → x ≡ u

module _ (n : ℕ) (B : Book) (u : Uid) (k : Kind) (l : Label) (s : IsKnown B u k None l) (at : u.node ≡ n) where
  abbrev a : Act
  a = s.act

  pub open_act : IsOpen B l s.act
  open_act = let e = s.end in record { named = s.named; unended = ap (is_over B) s.uid ∙ e.0; unfound = ap (is_on B.found) s.uid ∙ e.1 }

  pub plain_act : is_serial k ≡ false → IsOpenPlain B l s.act
  plain_act plain = let o = open_act in
      record { named = o.named; unended = o.unended; unfound = o.unfound; unserial = ap is_serial s.kind ∙ plain }

  pub about_it : (x : Act) → act_in B.acts (name l) ≡ Some x → (let y = x.uid in y.node) ≡ n
  about_it x is = ap (λ (y : Act). let w = y.uid in w.node) (some_is x s.act (sym is ∙ s.named)) ∙ ap (λ (w : Uid). w.node) s.uid ∙ at

  other_on : (us : List Uid) (w : Uid) → w ≢ u → is_on (s.act.uid ∷ us) w ≡ is_on us w
  other_on us w other = on_other s.act.uid w us (λ same. other (sym same ∙ s.uid))

  pub aborts : (why : Cause) → Ends n B u k ending.Abort (body.Aborted l why)
  aborts why = record {
    right = (s.act, open_act);
    about = about_it;
    acts = refl;
    accesses = refl;
    others = λ w other. record {
      called = refl;
      committed = refl;
      aborted = ap (λ us. is_on us w) (named_is B.acts l B.aborted s.act s.named) ∙ other_on B.aborted w other;
      ended = refl;
      found = refl;
    };
    here =
        ap (λ us. is_on us u) (named_is B.acts l B.aborted s.act s.named) ∙ ap (λ x. is_on (x ∷ B.aborted) u) s.uid ∙ on_here u B.aborted;
    only = λ x is. absurd (cc is);
  }

  pub commits : is_serial k ≡ false → is_on B.called u ≡ is_top k → Ends n B u k ending.Commit (body.Committed l)
  commits plain called = record {
    right = (s.act, open_act, ap is_serial s.kind ∙ plain, ap (is_on B.called) s.uid ∙ called ∙ ap is_top (sym s.kind));
    about = about_it;
    acts = refl;
    accesses = refl;
    others = λ w other. record {
      called = refl;
      committed = ap (λ us. is_on us w) (named_is B.acts l B.committed s.act s.named) ∙ other_on B.committed w other;
      aborted = refl;
      ended = refl;
      found = refl;
    };
    here = ap (λ x. if x then is_on B.ended u else is_on (let V = turned B (body.Committed l) in V.committed) u) plain ∙ ap (λ us.
        is_on us u) (named_is B.acts l B.committed s.act s.named) ∙ ap (λ x. is_on (x ∷ B.committed) u) s.uid ∙ on_here u B.committed;
    only = λ x is. some_is x (let y = s.act in y.uid) (sym is ∙ ap (λ o. option_map (λ (y : Act). y.uid) o) s.named) ∙ s.uid;
  }

  pub finishes : is_serial k ≡ true → Ends n B u k ending.Commit (body.Ended l)
  finishes serial = record {
    right = (s.act, open_act, ap is_serial s.kind ∙ serial);
    about = about_it;
    acts = refl;
    accesses = refl;
    others = λ w other. record {
      called = refl;
      committed = refl;
      aborted = refl;
      ended = ap (λ us. is_on us w) (named_is B.acts l B.ended s.act s.named) ∙ other_on B.ended w other;
      found = refl;
    };
    here = ap (λ x. if x then is_on (let V = turned B (body.Ended l) in V.ended) u else is_on B.committed u) serial
        ∙ ap (λ us. is_on us u) (named_is B.acts l B.ended s.act s.named) ∙ ap (λ x. is_on (x ∷ B.ended) u) s.uid ∙ on_here u B.ended;
    only = λ x is. absurd (cc is);
  }

-- ---- the coordinator

-- ends are listed but of an action that stands alone
lists_ended : (u : Uid) (e : End) (t : Tree) (b : Branch) (found : branch_of u t ≡ Some b) (r : Uid) → (ends_of r (ended_tree u e t b found)
    ≡ ends_of r t) ⊎ ((nat_le (length (uids_of b.path)) 1 ≡ false) × (ends_of r (ended_tree u e t b found) ≡ ends_of r t ++ (u, e) ∷ []))
lists_ended u e t b found r = by (nat_le (length (uids_of b.path)) 1) refl
  where
    m : Tree
    m = marked u e t b found

    by : (x : Bool) → nat_le (length (uids_of b.path)) 1 ≡ x → (ends_of r (ended_tree u e t b found) ≡ ends_of r t)
        ⊎ ((nat_le (length (uids_of b.path)) 1 ≡ false) × (ends_of r (ended_tree u e t b found) ≡ ends_of r t ++ (u, e) ∷ []))
    by true is = inl (ap (λ y. ends_of r
        (cond y m (with_family (root_of b.path) (let f = family_of (root_of b.path) m in record f { ends = f.ends ++ (u, e) ∷ [] }) m))) is)
    by false is = ⊎_elim (λ same. inl same) (λ more. inr (is, more.1)) (ends_after u e t b found r)

-- an action at work after another one, or itself, went idle
idle_cases : (u : Uid) (c : Coord) (w : Uid) (q : Doing) → doing_of w (on_doing u (λ (d : Doing). record d { now = Idle }) c) ≡ Some q
    → ((w ≡ u) × (p : Doing) × (doing_of u c ≡ Some p) × (record p { now = Idle } ≡ q)) ⊎ ((w ≢ u) × (doing_of w c ≡ Some q))
idle_cases u c w q at = by (doing_of u c) refl at
  where
    f : Doing → Doing
    f d = record d { now = Idle }

    by : (o : Option Doing) → doing_of u c ≡ o → doing_of w (change_doing f u c o) ≡ Some q →
        ((w ≡ u) × (p : Doing) × (doing_of u c ≡ Some p) × (record p { now = Idle } ≡ q)) ⊎ ((w ≢ u) × (doing_of w c ≡ Some q))
    by None none is = inr (
      (λ same. let no_way : ◌≡◌ {A = Option Doing} None (Some q) = sym none ∙ ap (λ x. doing_of x c) (sym same) ∙ is in absurd (cc no_way)),
      is,
    )
    by (Some p) found is = ⊎_elim (λ same. inl
        (same, p, found, some_is (f p) q (sym (doing_put u (f p) p c found) ∙ ap (λ x. doing_of x (set_doing u (f p) c)) (sym same) ∙ is)))
        (λ other. inr (other, sym (doing_other u w (f p) p c found other) ∙ is)) (uid_cases w u)

-- who goes idle is at no commit
idle_not : {P : Type 0} (p q : Doing) (m : Machine) → record p { now = Idle } ≡ q → q.now ≡ Committing m → P
idle_not p q m same is = let no_way : ◌≡◌ {A = Now} Idle (Committing m) = ap (λ (d : Doing). d.now) same ∙ is in absurd (cc no_way)

-- the commits of all others are called as they are under way
abbrev pub CallsBut : Uid → Book → Coord → Type 0
CallsBut u B c = (w : Uid) (b : Branch) (q : Doing) → w ≢ u → branch_of w c.tree ≡ Some b → doing_of w c ≡ Some q → b.ended ≡ None →
    is_on B.called w ≡ is_committing_now q.now

module _ (n : ℕ) (B : Book) (u : Uid) (e : End) (c : Coord) (line : Body) (b : Branch) (q : Doing) (s : Knows B c)
    (found : branch_of u c.tree ≡ Some b) (does : doing_of u c ≡ Some q) (ends : Ends n B u b.kind e line)
    (listed : nat_le (length (uids_of b.path)) 1 ≡ false → IsSaid (turned B line) u e) where
  abbrev V : Book
  V = turned B line

  abbrev v : Coord
  v = ended u e c

  abbrev mid : Coord
  mid = record c { tree = ended_at u e c.tree }

  its_tree : (ended u e c).tree ≡ ended_tree u e c.tree b found
  its_tree = on_tree u (λ (d : Doing). record d { now = Idle }) mid ∙ ap (λ o. ended_branch u e c.tree o) found

  mid_doing : (w : Uid) → doing_of w mid ≡ doing_of w c
  mid_doing w = let g = end_tree_on u e c in λ i. cond (g.own w i) (at_place w.num c.doings) None

  -- what is at work after it
  works : (w : Uid) (z : Doing) → doing_of w v ≡ Some z →
      ((w ≡ u) × (p : Doing) × (doing_of u c ≡ Some p) × (record p { now = Idle } ≡ z)) ⊎ ((w ≢ u) × (doing_of w c ≡ Some z))
  works w z at = ⊎_elim (λ same. inl (same.0, same.1, sym (mid_doing u) ∙ same.2, same.3))
      (λ other. inr (other.0, sym (mid_doing w) ∙ other.1)) (idle_cases u mid w z at)

  its_telling : (ended u e c).telling ≡ c.telling
  its_telling = by (doing_of u mid)
    where
      by : (o : Option Doing) → (let x = change_doing (λ (d : Doing). record d { now = Idle }) u mid o in x.telling) ≡ c.telling
      by None = refl
      by (Some d) = refl

  known : (w : Uid) (z : Branch) (p : Doing) → branch_of w v.tree ≡ Some z → doing_of w v ≡ Some p → IsKnown V w z.kind z.ended p.label
  known w z p at does_it = by (after_cases u e c.tree b found w z (ap (branch_of w) (sym its_tree) ∙ at)) (works w p does_it)
    where
      own : IsKnown B u b.kind b.ended q.label
      own = s.acts u b q found does

      mine : IsKnown V u b.kind (Some e) q.label
      mine = record {
        act = own.act;
        named = ap (λ xs. act_in xs (name q.label)) ends.acts ∙ own.named;
        uid = own.uid;
        kind = own.kind;
        end = ends.here;
      }

      by : ((w ≡ u) × (record b { ended = Some e } ≡ z)) ⊎ ((w ≢ u) × (branch_of w c.tree ≡ Some z)) → ((w ≡ u) × (x : Doing) × (doing_of u
          c ≡ Some x) × (record x { now = Idle } ≡ p)) ⊎ ((w ≢ u) × (doing_of w c ≡ Some p)) → IsKnown V w z.kind z.ended p.label
      by (inl there) (inl same) =
          let one : same.1 ≡ q = some_is same.1 q (sym same.2 ∙ does) in
          let label : q.label ≡ p.label = ap (λ (d : Doing). d.label) (sym one) ∙ ap (λ (d : Doing). d.label) same.3 in
          subst (λ x. IsKnown V x z.kind z.ended p.label) (sym there.0)
          (subst (λ (x : Branch). IsKnown V u x.kind x.ended p.label) there.1 (subst (λ x. IsKnown V u b.kind (Some e) x) label mine))
      by (inl there) (inr other) = absurd (other.0 there.0)
      by (inr there) (inl same) = absurd (there.0 same.0)
      by (inr there) (inr other) =
          let k = s.acts w z p there.1 other.1 in
          record {
            act = k.act;
            named = ap (λ xs. act_in xs (name p.label)) ends.acts ∙ k.named;
            uid = k.uid;
            kind = k.kind;
            end = end_same B V w z.kind z.ended (ends.others w there.0) k.end;
          }

  pub knows_ended : Knows V v
  knows_ended = record {
    acts = known;
    lists = λ r. subst (λ t. AreSaid V (ends_of r t)) (sym its_tree)
        (⊎_elim (λ same. subst (AreSaid V) (sym same) (are_later B V (later_turn B line) (ends_of r c.tree) (s.lists r)))
        (λ more. subst (AreSaid V) (sym more.1) (all_both (λ (x : Uid × End). IsSaid V x.0 x.1) (ends_of r c.tree) ((u, e) ∷ [])
        (are_later B V (later_turn B line) (ends_of r c.tree) (s.lists r)) (listed more.0, tt)))
        (lists_ended u e c.tree b found r));
    plans = λ w p m does_it is. ⊎_elim (λ same. idle_not same.1 p m same.3 is)
        (λ other. are_later B V (later_turn B line) _ (s.plans w p m other.1 is)) (works w p does_it);
    telling = subst (EachRecord (λ w. is_decided V w ≡ true)) (sym its_telling)
        (λ w i there. decided_later B V (later_turn B line) w (s.telling w i there));
    ties = subst (λ xs. Ties xs V.accesses v.tree v.roots) (sym ends.acts) (subst (λ rs. Ties B.acts rs v.tree v.roots) (sym ends.accesses)
        (ties_on B.acts B.accesses c.tree v.tree c.roots v.roots same_ties s.ties));
  }
    where
      same_ties : SameTies c.tree v.tree c.roots v.roots
      same_ties = record {
        back = λ w z at. let x = was_there u e c.tree b found w z (ap (branch_of w) (sym its_tree) ∙ at) in (x.0, x.1, x.2);
        forth = λ w a at. ⊎_elim
            (λ same. (
              ended_b u e c.tree b found,
              ap (branch_of w) its_tree ∙ ap (λ x. branch_of x (ended_tree u e c.tree b found)) same ∙ at_u u e c.tree b found,
              ap (λ (x : Branch). x.path) (some_is a b (sym at ∙ ap (λ x. branch_of x c.tree) same ∙ found)),
            ))
            (λ other. (a, ap (branch_of w) its_tree ∙ at_others u e c.tree b found w other ∙ at, refl)) (uid_cases w u);
        own = λ w. ap (is_own w) (on_tree u (λ (d : Doing). record d { now = Idle }) mid) ∙ (let g = end_tree_on u e c in g.own w);
        said = λ r. ap (λ rs. (root_in r rs).said) its_roots;
        joined = λ r. ap (λ rs. (root_in r rs).joined) its_roots;
      }
        where
          its_roots : (ended u e c).roots ≡ c.roots
          its_roots = on_roots u (λ (d : Doing). record d { now = Idle }) mid

  pub calls_ended : CallsBut u B c → Calls V v
  calls_ended calls w z p at does_it opened =
      by (after_cases u e c.tree b found w z (ap (branch_of w) (sym its_tree) ∙ at)) (works w p does_it)
    where
      by : ((w ≡ u) × (record b { ended = Some e } ≡ z)) ⊎ ((w ≢ u) × (branch_of w c.tree ≡ Some z)) → ((w ≡ u) × (x : Doing) × (doing_of u
          c ≡ Some x) × (record x { now = Idle } ≡ p)) ⊎ ((w ≢ u) × (doing_of w c ≡ Some p)) → is_on V.called w ≡ is_committing_now p.now
      by (inl there) x = let no_way : ◌≡◌ {A = Option End} (Some e) None = ap (λ (y : Branch). y.ended) there.1 ∙ opened in
          absurd (cc no_way)
      by (inr there) (inl same) = absurd (there.0 same.0)
      by (inr there) (inr other) = let o = ends.others w there.0 in o.called ∙ calls w z p there.0 there.1 other.1 opened
