-- Where the commit of a top isn't refused no other top of its root is at its commit.
use Rattle.arj_law_parts.proofs.Words
use Words.{◌≡◌, ◌≢◌, ◌∙◌, ◌&&◌, ◌||◌, ◌++◌, ℕ, Bool, true, false, cond, not, filter, List, [], ◌∷◌, Some, None, is_some, refl, sym, ap}
use Words.{subst, inl, inr, list_any, or_parts, uid_is, uid_same, In, in_from, none_in, Header, Kind, Uid, first_uid, uid_eq, uids_of}
use Words.{actor, plan_of, Coord, doing_of, of_root, Disk, Parts, Input, branch_named, commit_reasons, first_reason, is_committing}
use Words.{is_committing_now, is_sibling, refusal_up, refused_by, sibling_waits, waits_above, waits_below, Branch, branch_of}
use Words.{has_open_child, root_of, Seen, is_constituent}
use Words.kind
use Words.input
use Rattle.arj_law_disk_view.proofs.Terms
use Terms.{Action, AreBegun, Stands, act_of, action_of, paths_of, IsBusy, IsGoodCoord, IsVoting, begun_tree, one_action, serial_alone}
use Terms.{named_found, found_by, IsGoodOf, good_coord, up, never, IsFirstAt}
use Rattle.arj_law_disk_view.proofs.{running.SoundCoords.IsFirstInput, view.WholeWalks.no_reason}
use Rattle.arj_law_parts.proofs.parts.{Begun.where_stands, GoodTrees.place_in}

-- a top that isn't a constituent stands alone; a constituent stands in a serializing action
data Form (acts : List Action) (a : Action) : Type 0 where
  Alone : uids_of a.path ≡ act_of a ∷ [] → Form acts a
  Within : (s : Action) → In s acts → s.kind ≡ kind.Serial → a.kind ≡ kind.Constituent → uids_of a.path ≡ act_of s ∷ act_of a ∷ [] →
      Form acts a

form_of : (acts : List Action) → AreBegun acts → (a : Action) → In a acts → a.kind ≢ kind.Nested → Form acts a
form_of acts begun a i unnested = by a.kind refl (where_stands acts begun a i)
  where
    by : (k : Kind) → a.kind ≡ k → Stands acts a k → Form acts a
    by kind.Top is s = Alone s.0
    by kind.Independent is s = Alone s.0
    by kind.Serial is s = Alone s.0
    by kind.Nested is s = absurd (unnested is)
    by kind.Constituent is s = let up = serial_alone acts begun s.0 (in_from s.0 acts s.1) s.2 in
        Within s.0 (in_from s.0 acts s.1) s.2 is (s.3 ∙ ap (λ us. us ++ act_of a ∷ []) up.0)

kept_in : {A : Type 0} (p : A → Bool) (a : A) (items : List A) → In a items → p a ≡ true → In a (filter p items)
kept_in p a [] i is = absurd i
kept_in {A} p a (b ∷ items) i is = by (p b) refl (kept_in p a items) i
  where
    by : (z : Bool) → p b ≡ z → (In a items → p a ≡ true → In a (filter p items)) → In a (b ∷ items) →
        In a (cond z (b ∷ filter p items) (filter p items))
    by true e ih (inl same) = inl same
    by true e ih (inr j) = inr (ih j is)
    by false e ih (inl same) = absurd (never (ap p same ∙ is) e)
    by false e ih (inr j) = ih j is

commit_first : (acts : List Action) → AreBegun acts → (c : Coord) (b : Branch) → IsGoodCoord acts (paths_of acts) c →
    branch_of (actor b.path) c.tree ≡ Some b → waits_above b c ≡ false → sibling_waits b c ≡ false → b.kind ≢ kind.Nested →
    b.kind ≢ kind.Serial → IsFirstAt c (root_of b.path) (actor b.path)
commit_first acts begun c b good found up siblings unnested unserial w (e, m, at, is, same) = by (uid_eq w u) refl
  where
    u : Uid
    u = actor b.path

    v : IsVoting c.tree w (plan_of m)
    v = subst (IsBusy c.tree w) is (good.busy w e at)

    z : Branch
    z = v.asking.branch

    its : In (action_of b) acts
    its = in_from (action_of b) acts (good.known u b found)

    theirs : In (action_of v.asking.branch) acts
    theirs = in_from (action_of v.asking.branch) acts (good.known w v.asking.branch v.asking.found)

    who : actor v.asking.branch.path ≡ w
    who = good.tree.lists.places w v.asking.branch v.asking.found

    -- the roots of both are one
    first : first_uid (uids_of v.asking.branch.path) ≡ first_uid (uids_of b.path)
    first = ap root_of v.asking.path ∙ same

    -- a top isn't a serializing action
    one_kind : (x y : Action) → In x acts → In y acts → act_of x ≡ act_of y → x.kind ≡ y.kind
    one_kind x y i j it = ap (λ (a : Action). a.kind) (one_action acts begun x y i j it)

    forms : uid_eq w (actor b.path) ≡ false → Form acts (action_of b) → Form acts (action_of v.asking.branch) → w ≡ actor b.path
    forms off (Alone p) (Alone q) = sym who ∙ ap first_uid (sym q) ∙ first ∙ ap first_uid p
    forms off (Alone p) (Within s i serial const q) =
        absurd (unserial (sym (one_kind s (action_of b) i its (ap first_uid (sym q) ∙ first ∙ ap first_uid p)) ∙ serial))
    forms off (Within s i serial const p) (Alone q) = absurd (v.asking.unserial
        (sym (one_kind s (action_of v.asking.branch) i theirs (ap first_uid (sym p) ∙ sym first ∙ ap first_uid q)) ∙ serial))
    forms off (Within s i serial const p) (Within r j serial2 const2 q) = absurd (never here (none_in (is_sibling b c) v.asking.branch
        (filter (of_root (root_of b.path)) c.tree.branches) none (kept_in (of_root (root_of b.path)) v.asking.branch c.tree.branches
        (place_in w.num v.asking.branch c.tree.branches (found_by w c.tree v.asking.branch v.asking.found).1) same_root)))
      where
        none : list_any (is_sibling b c) (filter (of_root (root_of b.path)) c.tree.branches) ≡ false
        none =
            (λ k. is_constituent (sym const k) && list_any (is_sibling b c) (filter (of_root (root_of b.path)) c.tree.branches)) ∙ siblings

        same_root : of_root (root_of b.path) v.asking.branch ≡ true
        same_root = ap (λ x. uid_eq x (root_of b.path)) first ∙ uid_same (root_of b.path)

        apart : uid_eq (actor v.asking.branch.path) (actor b.path) ≡ false
        apart = ap (λ x. uid_eq x (actor b.path)) who ∙ off

        at_commit : is_committing (doing_of (actor v.asking.branch.path) c) ≡ true
        at_commit = ap (λ x. is_committing (doing_of x c)) who ∙ ap is_committing at ∙ ap is_committing_now is

        here : is_sibling b c v.asking.branch ≡ true
        here = λ k. is_constituent (const2 k) && (not (apart k) && at_commit k)

    by : (t : Bool) → uid_eq w (actor b.path) ≡ t → w ≡ actor b.path
    by true it = uid_is w (actor b.path) it
    by false off = forms off (form_of acts begun (action_of b) its unnested)
        (form_of acts begun (action_of v.asking.branch) theirs (v.top v.asking.branch v.asking.found))

-- So it is where a commit isn't refused.
pub input_first : (acts : List Action) (k : ℕ) (d : Disk) (t : Parts) (M : Seen) → IsGoodOf acts (up k d t M) → (hd : Header) (i : Input) →
    refusal_up hd i t.coord ≡ None → IsFirstInput t.coord i
input_first acts k d t M good hd (input.Commit l) free = by
  where
    c : Coord
    c = t.coord

    its : IsGoodCoord acts (paths_of acts) t.coord
    its = good_coord 0 k d t M (acts, good)

    by : (b : Branch) → branch_named l t.coord ≡ Some b → b.kind ≢ kind.Nested → b.kind ≢ kind.Serial →
        IsFirstAt t.coord (root_of b.path) (actor b.path)
    by b is unnested unserial =
        let none : first_reason (commit_reasons b c) ≡ None = sym (ap (refused_by commit_reasons c) is) ∙ free in
        let one = no_reason 6 (is_some b.ended)
        ((7, waits_above b c || waits_below b c || sibling_waits b c) ∷ (9, has_open_child (actor b.path) c.tree) ∷ []) none in
        let two = no_reason 7 (waits_above b c || waits_below b c || sibling_waits b c) ((9, has_open_child (actor b.path) c.tree) ∷ [])
        one.1 in
        let three = or_parts (waits_above b c || waits_below b c) (sibling_waits b c) two.0 in
        commit_first acts good.begun c b its (named_found acts (paths_of acts) (begun_tree acts good.begun) d.intents c its l b is)
        (or_parts (waits_above b c) (waits_below b c) three.0).0 three.1 unnested unserial
input_first acts k d t M good hd (input.Begin l how parent) free = tt
input_first acts k d t M good hd (input.Call l x o) free = tt
input_first acts k d t M good hd (input.Include l x n) free = tt
input_first acts k d t M good hd (input.Abort l) free = tt
input_first acts k d t M good hd (input.GiveUp l) free = tt
input_first acts k d t M good hd (input.Frame j from m) free = tt
input_first acts k d t M good hd input.Tick free = tt
input_first acts k d t M good hd input.Restart free = tt
input_first acts k d t M good hd input.Crash free = tt
input_first acts k d t M good hd (input.Show x) free = tt
