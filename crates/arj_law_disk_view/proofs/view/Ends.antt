-- What the end of an action leaves of a coordinator's tree: the other actions as they were, and its root's list of ends.
use Rattle.arj_law_parts.proofs.Words
use Words.{◌≡◌, ◌||◌, List, [], ◌∷◌, ◌++◌, Bool, true, false, Option, Some, refl, sym, ◌∙◌, ap, ⊎_elim, if◌then◌else◌, nat_le, length}
use Words.{unwrap_or, list_any, is_eq, nat_cmp, Ordering, Less, Equal, Greater, nat_cmp-IsAntisymmetric, list_any-append, uid_cases}
use Words.{uid_same, uid_is, Uid, End, uid_eq, uids_of, last_end, Coord, Doing, Idle, doing_of, ended, up_to, at_number, put_number, Tree}
use Words.{Branch, Family, branch_of, is_open, is_open_branch, root_of, ends_of, ended_at, ended_branch, with_family, family_of, no_family}
use Words.{set_place}
use Words.maps
use Rattle.arj_law_disk_view.proofs.Terms.{never, or_left, or_right}
use Rattle.arj_law_disk_view.proofs.view
use view.{Doings.doing_tree}
use view.Ended.{HasEnded, ended_here, ended_other}
use view.Ending.{one_tree, one_doing, one_doings}

-- an action that is there, and what it does
pub record IsHere (u : Uid) (c : Coord) : Type 0 where
  pub branch : Branch
  pub found : branch_of u c.tree ≡ Some branch
  pub doing : Doing
  pub at_work : doing_of u c ≡ Some doing

-- the action stands in a list of ends
abbrev pub is_listed_end : Uid → List (Uid × End) → Bool
is_listed_end w es = list_any (λ (e : Uid × End). uid_eq e.0 w) es

-- In the later coordinator some actions have ended.
pub record OnlyEnds (c C : Coord) : Type 0 where
  pub kept : (w : Uid) (b : Branch) → branch_of w c.tree ≡ Some b →
      (z : Branch) × (branch_of w C.tree ≡ Some z) × (z.kind ≡ b.kind) × (z.path ≡ b.path)
  pub was_open : (w : Uid) → is_open w C.tree ≡ true → is_open w c.tree ≡ true
  pub was : (w : Uid) (z : Branch) → branch_of w C.tree ≡ Some z → (b : Branch) × (branch_of w c.tree ≡ Some b) × (z.path ≡ b.path)
  pub ends : (w root : Uid) → is_listed_end w (ends_of root c.tree) ≡ true → is_listed_end w (ends_of root C.tree) ≡ true

pub ends_none : (c : Coord) → OnlyEnds c c
ends_none c = record { kept = λ w b is. (b, is, refl, refl); was_open = λ w o. o; was = λ w z is. (z, is, refl); ends = λ w root on. on }

pub ends_both : (a b c : Coord) → OnlyEnds a b → OnlyEnds b c → OnlyEnds a c
ends_both a b c p q = record {
  kept = λ w g is. let one = p.kept w g is in let two = q.kept w one.0 one.1 in (two.0, two.1, two.2 ∙ one.2, two.3 ∙ one.3);
  was_open = λ w o. p.was_open w (q.was_open w o);
  was = λ w z is. let two = q.was w z is in let one = p.was w two.0 two.1 in (one.0, one.1, two.2 ∙ one.2);
  ends = λ w root on. q.ends w root (p.ends w root on);
}

-- ---- lists of ends

-- the ends up to and with that of an action end with it
pub up_to_ends : (u : Uid) (es : List (Uid × End)) → is_listed_end u es ≡ true → (how : End) × (last_end (up_to u es) ≡ Some (u, how))
up_to_ends u [] on = absurd (cc on)
up_to_ends u (e ∷ es) on = by (uid_eq e.0 u) refl on (up_to_ends u es)
  where
    by : (b : Bool) → uid_eq e.0 u ≡ b → (b || is_listed_end u es) ≡ true →
        (is_listed_end u es ≡ true → (how : End) × (last_end (up_to u es) ≡ Some (u, how)))
        → (how : End) × (last_end (if b then e ∷ [] else e ∷ up_to u es) ≡ Some (u, how))
    by true same on ih = (e.1, λ i. Some (uid_is e.0 u same i, e.1))
    by false other on ih = let r = ih on in (r.0, behind (up_to u es) r.0 r.1)
      where
        behind : (ds : List (Uid × End)) (how : End) → last_end ds ≡ Some (u, how) → last_end (e ∷ ds) ≡ Some (u, how)
        behind [] how is = absurd (cc is)
        behind (d ∷ ds) how is = is

-- a family that is put is found
family_here : (root : Uid) (f : Family) (t : Tree) → family_of root (with_family root f t) ≡ f
family_here root f t = ap (λ o. unwrap_or o no_family) (maps.put_same root.num f t.families)

-- more ends at one root
more_ends : (w root r : Uid) (e : Uid × End) (t : Tree) → is_listed_end w (ends_of root t) ≡ true →
    is_listed_end w (ends_of root (with_family r (let f = family_of r t in record f { ends = f.ends ++ e ∷ [] }) t)) ≡ true
more_ends w root r e t on = by (nat_cmp root.num r.num) refl
  where
    there : Family
    there = let f = family_of r t in record f { ends = f.ends ++ e ∷ [] }

    apart : is_eq (nat_cmp root.num r.num) ≡ false → is_listed_end w (ends_of root (with_family r there t)) ≡ true
    apart other =
        ap (λ o. is_listed_end w (let f = unwrap_or o no_family in f.ends)) (maps.put_other r.num root.num there t.families other) ∙ on

    by : (o : Ordering) → nat_cmp root.num r.num ≡ o → is_listed_end w (ends_of root (with_family r there t)) ≡ true
    by Less is = apart (ap is_eq is)
    by Greater is = apart (ap is_eq is)
    by Equal is =
        let same : root.num ≡ r.num = nat_cmp-IsAntisymmetric root.num r.num is in
        let found : at_number root.num (put_number r.num there t.families) ≡ Some there = ap
        (λ n. at_number n (put_number r.num there t.families)) same ∙ maps.put_same r.num there t.families in
        ap (λ o. is_listed_end w (let f = unwrap_or o no_family in f.ends)) found
        ∙ list_any-append (λ (z : Uid × End). uid_eq z.0 w) (ends_of r t) (e ∷ [])
        ∙ or_left (is_listed_end w (ends_of r t)) (is_listed_end w (e ∷ []))
        (ap (λ n. is_listed_end w (let f = unwrap_or (at_number n t.families) no_family in f.ends)) (sym same) ∙ on)

-- ---- one end

module _ (c : Coord) (u : Uid) (b : Branch) (q : Doing) (how : End) (found : branch_of u c.tree ≡ Some b)
    (at_work : doing_of u c ≡ Some q) where
  abbrev C : Coord
  C = ended u how c

  tree_is : C.tree ≡ ended_branch u how c.tree (Some b)
  tree_is = doing_tree u (λ (r : Doing). record r { now = Idle }) (record c { tree = ended_at u how c.tree })
      ∙ ap (λ o. ended_branch u how c.tree o) found

  abbrev Now : Tree
  Now = record c.tree { branches = set_place u.num (record b { ended = Some how }) c.tree.branches }

  pub one_listed : nat_le (length (uids_of b.path)) 1 ≡ false → is_listed_end u (ends_of (root_of b.path) C.tree) ≡ true
  one_listed long = ap (λ t. is_listed_end u (ends_of (root_of b.path) t)) tree_is ∙ by (nat_le (length (uids_of b.path)) 1) long
    where
      more : Family
      more = let f = family_of (root_of b.path) Now in record f { ends = f.ends ++ (u, how) ∷ [] }

      by : (l : Bool) → l ≡ false →
          is_listed_end u (ends_of (root_of b.path) (if l then Now else with_family (root_of b.path) more Now)) ≡ true
      by true l = absurd (cc l)
      by false l = ap (λ (f : Family). is_listed_end u f.ends) (family_here (root_of b.path) more Now)
          ∙ list_any-append (λ (z : Uid × End). uid_eq z.0 u) (ends_of (root_of b.path) Now) ((u, how) ∷ [])
          ∙ or_right (is_listed_end u (ends_of (root_of b.path) Now)) (uid_eq u u || false) (ap (λ x. x || false) (uid_same u))

  ends_stay : (w root : Uid) → is_listed_end w (ends_of root c.tree) ≡ true → is_listed_end w (ends_of root C.tree) ≡ true
  ends_stay w root on = ap (λ t. is_listed_end w (ends_of root t)) tree_is ∙ by (nat_le (length (uids_of b.path)) 1)
    where
      by : (l : Bool) → is_listed_end w (ends_of root (if l then Now else with_family (root_of b.path)
          (let f = family_of (root_of b.path) Now in record f { ends = f.ends ++ (u, how) ∷ [] }) Now)) ≡ true
      by true = on
      by false = more_ends w root (root_of b.path) (u, how) Now on

  pub not_open_now : is_open u C.tree ≡ false
  not_open_now = ap is_open_branch (ended_here u b how c.tree C.tree found (one_tree c u b q how found at_work))

  pub one_ends : OnlyEnds c C
  one_ends = record {
    kept = λ w g is. ⊎_elim
        (λ same. let it : b ≡ g =
        (let e : ◌≡◌ {A = Option Branch} (Some b) (Some g) = sym found ∙ ap (λ a. branch_of a c.tree) (sym same) ∙ is in cc e) in (
          record b { ended = Some how },
          ap (λ a. branch_of a C.tree) same ∙ ended_here u b how c.tree C.tree found tree,
          ap (λ (x : Branch). x.kind) it,
          ap (λ (x : Branch). x.path) it,
        ))
        (λ other. (g, ended_other u b how c.tree C.tree found tree w other ∙ is, refl, refl))
        (uid_cases w u);
    was_open = λ w o. ⊎_elim (λ same. absurd (never o (ap (λ a. is_open a C.tree) same ∙ not_open_now)))
        (λ other. ap is_open_branch (sym (ended_other u b how c.tree C.tree found tree w other)) ∙ o) (uid_cases w u);
    was = λ w z is. ⊎_elim
        (λ same. let it : record b { ended = Some how } ≡ z = (let e : ◌≡◌ {A = Option Branch} (Some (record b { ended = Some how }))
        (Some z) = sym (ended_here u b how c.tree C.tree found tree) ∙ ap (λ a. branch_of a C.tree) (sym same) ∙ is in cc e) in
        (b, ap (λ a. branch_of a c.tree) same ∙ found, ap (λ (x : Branch). x.path) (sym it)))
        (λ other. (z, sym (ended_other u b how c.tree C.tree found tree w other) ∙ is, refl))
        (uid_cases w u);
    ends = ends_stay;
  }
    where
      tree : HasEnded u b how c.tree C.tree
      tree = one_tree c u b q how found at_work

  pub here_still : (w : Uid) → IsHere w c → IsHere w C
  here_still w h = ⊎_elim
      (λ same. record {
        branch = record b { ended = Some how };
        found = ap (λ a. branch_of a C.tree) same ∙ ended_here u b how c.tree C.tree found (one_tree c u b q how found at_work);
        doing = record q { now = Idle };
        at_work = ap (λ a. doing_of a C) same ∙ one_doing c u b q how found at_work;
      })
      (λ other. record {
        branch = h.branch;
        found = ended_other u b how c.tree C.tree found (one_tree c u b q how found at_work) w other ∙ h.found;
        doing = h.doing;
        at_work = one_doings c u b q how found at_work w other ∙ h.at_work;
      })
      (uid_cases w u)
