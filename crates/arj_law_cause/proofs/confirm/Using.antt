-- What a plan uses of an object, where the commit's end is said: the root has entered the object in that incarnation, and naming has another
-- one behind the commit's call only if that is a later one.
use Rattle.arj_law_parts.proofs.Words
use Words.{◌≡◌, ◌≤◌, ◌<◌, ◌⊎◌, ◌∙◌, ◌==◌, ◌++◌, ◌||◌, ℕ, Bool, true, false, List, [], ◌∷◌, length, Some, refl, sym, ap, subst, inl, inr, arith}
use Words.{nat_tests, append_assoc, first_uid, in_to, is_on, last_uid, uid_eq, uid_is, uid_same, uids_of, In, Header, Line}
use Words.{Node, Parts, Seen, Start, Uid, Used}
use Words.mode
use Rattle.arj_law_parts.proofs.parts.Begun.{path_some}
use Rattle.arj_law_runs.proofs.journal.{Closed.one_act, Models.its_sound, Ties.on_path}
use Rattle.arj_law_serial.proofs.Terms.{Act, Action, AreDistinct, act_of, acts, path, path_by, uids}
use Rattle.arj_law_serial.proofs.order.Paths.{found}
use Rattle.arj_law_serial.proofs.tables.Holders.{path_fits}
use Rattle.arj_model.specs.Actions.{root_in}
use Rattle.arj_model.specs.CauseCopies.{has_entered_in}
use Rattle.arj_model.specs.Refusals.{incarnation}
use Rattle.arj_law_cause.proofs.confirm.{Called.called_more, Called.is_called, Had.IsUsedSo, Reached.Reached, Ups.UpsRise}
use Rattle.arj_law_cause.proofs.confirm.{Ups.begins_other, Ups.rise, Ups.rise_before}
use Rattle.arj_law_cause.proofs.bindings.{Lines.IsLined, Lines.lined_more, Since.IsActiveIn, Since.active_in_more}
use Rattle.arj_law_cause.proofs.confirm.Placed as placed
use Rattle.arj_law_cause.specs.rows.Early.{IsEarly}
use Rattle.arj_law_cause.proofs.rows.{Entered.IsSettled, Entered.entered_then, Holders.alike_from, Holders.one_passes, Paths.label_path}

-- two paths that begin with one Uid have one root
same_root : (xs : List Act) → AreDistinct xs → (p q : List Act) → ((z : Act) → In z p → In z xs) → ((z : Act) → In z q → In z xs) →
    1 ≤ length (uids p) → 1 ≤ length (uids q) → first_uid (uids p) ≡ first_uid (uids q) → root_in p ≡ root_in q
same_root xs distinct [] q f g some there same = absurd (omega (arith, some))
same_root xs distinct (x ∷ p) [] f g some there same = absurd (omega (arith, there))
same_root xs distinct (x ∷ p) (y ∷ q) f g some there same =
    ap (λ (z : Act). Some z.id) (one_act xs distinct x y (f x (inl refl)) (g y (inl refl)) same)

-- the roots of two actions, by their labels
pub act_roots : (xs : List Act) → AreDistinct xs → (v a : Act) → In v xs → In a xs → In v (path xs v.label) → In a (path xs a.label) →
    first_uid (uids (path_by xs v.uid)) ≡ first_uid (uids (path_by xs a.uid)) → root_in (path xs v.label) ≡ root_in (path xs a.label)
act_roots xs distinct v a i j there own same = same_root xs distinct (path xs v.label) (path xs a.label) (λ z l. on_path xs v.label z l)
    (λ z l. on_path xs a.label z l) (long v (path xs v.label) there) (long a (path xs a.label) own)
    (ap (λ p. first_uid (uids p)) (label_path xs distinct v.label v (found xs distinct v i)) ∙ same
    ∙ sym (ap (λ p. first_uid (uids p)) (label_path xs distinct a.label a (found xs distinct a j))))
  where
    long : (z : Act) (p : List Act) → In z p → 1 ≤ length (uids p)
    long z [] l = absurd l
    long z (y ∷ p) l = omega arith

last_on : (us : List Uid) → 1 ≤ length us → is_on us (last_uid us) ≡ true
last_on [] some = absurd (omega (arith, some))
last_on (u ∷ []) some = λ i. uid_same u i || false
last_on (u ∷ w ∷ us) some = or_last (uid_eq u (last_uid (w ∷ us))) (last_on (w ∷ us) (omega arith))
  where
    or_last : (a : Bool) {b : Bool} → b ≡ true → (a || b) ≡ true
    or_last true h = refl
    or_last false h = h

module _ (hd : Header) (st : Start) (Z : Seen) (reached : Reached hd Z) (k : ℕ) (n : Node) (t : Parts) (here : Z.nodes k ≡ Some n)
    (live : n.live ≡ Some t) (u : Uid) (w : Used) (q : IsUsedSo st Z.lines u w) where
  distinct : AreDistinct (acts Z.lines)
  distinct = let z = its_sound Z.lines (placed.right hd Z reached k n t here live) in z.distinct

  abbrev begun : List Action
  begun = placed.begun hd Z reached k n t here live

  -- an action of the journal, as it was begun
  module _ (a : Act) (i : In a (acts Z.lines)) where
    action : (b : Action) × In b begun × (act_of b ≡ a.uid)
    action = let f = alike_from begun (acts Z.lines) (placed.alike hd Z reached k n t here live) a i in (f.0, f.1, sym f.2)

    named : path (acts Z.lines) a.label ≡ path_by (acts Z.lines) a.uid
    named = label_path (acts Z.lines) distinct a.label a (found (acts Z.lines) distinct a i)

    its : uids (path (acts Z.lines) a.label) ≡ uids_of (let b = action.0 in b.path)
    its = ap uids named ∙ ap (λ v. uids (path_by (acts Z.lines) v)) (sym action.2)
        ∙ (let f = path_fits begun (acts Z.lines) (placed.all_begun hd Z reached k n t here live) (placed.alike hd Z reached k n t here live)
        action.0 action.1 in let z = f.actor_is in z.path_is)

    some : 1 ≤ length (uids (path (acts Z.lines) a.label))
    some = subst (λ us. 1 ≤ length us) (sym its) (path_some (let b = action.0 in b.path))

    above : is_on (uids_of (let b = action.0 in b.path)) a.uid ≡ true
    above = subst (λ v. is_on (uids_of (let b = action.0 in b.path)) v ≡ true) action.2
        (last_on (uids_of (let b = action.0 in b.path)) (path_some (let b = action.0 in b.path)))

  -- the top that had the lock
  its_top : (b : Act) × In b (acts Z.lines) × (b.uid ≡ q.top)
  its_top = let f = one_passes (λ (b : Act). uid_eq b.uid q.top) (acts Z.lines) q.there in (f.0, f.1, uid_is (let b = f.0 in b.uid) q.top f.2)

  pub entered : IsSettled Z.lines → (a : Act) → In a (acts Z.lines) → a.uid ≡ u →
      has_entered_in st Z.lines w.x (root_in (path (acts Z.lines) a.label)) w.grant ≡ true
  entered settled a i same =
      let b = its_top in
      let c = action b.0 b.1 in
      subst (λ g. has_entered_in st Z.lines w.x (root_in (path (acts Z.lines) a.label)) g ≡ true) q.had.inc
      (subst (λ r. has_entered_in st Z.lines w.x r (incarnation st q.had.before 1) ≡ true) roots
      (entered_then st Z.lines q.had.before (q.had.after ++ q.more) total begun (placed.all_begun hd Z reached k n t here live)
      (placed.alike hd Z reached k n t here live) distinct c.0 (in_to c.0 begun c.1) q.top
      (subst (λ v. is_on (uids_of (let e = c.0 in e.path)) v ≡ true) b.2 (above b.0 b.1))
      (path (acts Z.lines) (let e = b.0 in e.label)) (its b.0 b.1) (λ z j. on_path (acts Z.lines) (let e = b.0 in e.label) z j)
      settled.begins w.x mode.Read q.had.lock))
    where
      total : Z.lines ≡ q.had.before ++ (q.had.after ++ q.more)
      total = q.are ∙ (λ j. q.had.are j ++ q.more) ∙ append_assoc q.had.before q.had.after q.more

      roots : root_in (path (acts Z.lines) (let e = its_top.0 in e.label)) ≡ root_in (path (acts Z.lines) a.label)
      roots =
          let b = its_top in
          same_root (acts Z.lines) distinct (path (acts Z.lines) (let e = b.0 in e.label)) (path (acts Z.lines) a.label)
          (λ z j. on_path (acts Z.lines) (let e = b.0 in e.label) z j) (λ z j. on_path (acts Z.lines) a.label z j)
          (some b.0 b.1) (some a i)
          (ap (λ p. first_uid (uids p)) (named b.0 b.1 ∙ ap (path_by (acts Z.lines)) b.2) ∙ q.root distinct
          ∙ ap (λ p. first_uid (uids p)) (sym (named a i ∙ ap (path_by (acts Z.lines)) same)))

  -- behind the call naming's incarnation is a later one, if it is another
  pub older : UpsRise st Z.lines → (before after : List Line) → Z.lines ≡ before ++ after → is_called before u →
      (w.grant == incarnation st before 1) ≡ false → w.grant < incarnation st before 1
  older up before after are called off = by (begins_other q.first q.more before after (sym q.are ∙ are))
    where
      less : (g i : ℕ) → g ≤ i → (g == i) ≡ false → g < i
      less g i le other = grind (arith, nat_tests, le, other)

      by : ((m : List Line) × (before ≡ q.first ++ m)) ⊎ ((m : List Line) × (q.first ≡ before ++ m)) → w.grant < incarnation st before 1
      by (inl r) =
          let all : before ≡ q.had.before ++ (q.had.after ++ r.0) =
          r.1 ∙ (λ j. q.had.are j ++ r.0) ∙ append_assoc q.had.before q.had.after r.0 in
          less w.grant (incarnation st before 1) (subst (λ g. g ≤ incarnation st before 1) q.had.inc
          (subst (λ ls. incarnation st q.had.before 1 ≤ incarnation st ls 1) (sym all)
          (rise st 1 q.had.before (q.had.after ++ r.0) (subst (UpsRise st) all
          (rise_before st before after (subst (UpsRise st) are up)))))) off
      by (inr r) =
          let on : is_called q.first u = subst (λ ls. is_called ls u) (sym r.1) (called_more before r.0 u called) in
          let no_way : true ≡ false = sym on ∙ q.uncalled in absurd (cc no_way)

  -- whose copy was active at the server where the commit was called
  pub served : IsEarly Z.lines → (before after : List Line) → Z.lines ≡ before ++ after → is_called before u → w.called ≡ true →
      IsLined before w.x w.binding w.server × IsActiveIn st before w.server w.x w.binding w.inc
  served early before after are called on = by (begins_other q.first q.more before after (sym q.are ∙ are)) (q.server early on)
    where
      by : ((m : List Line) × (before ≡ q.first ++ m)) ⊎ ((m : List Line) × (q.first ≡ before ++ m)) →
          IsLined q.first w.x w.binding w.server × IsActiveIn st q.first w.server w.x w.binding w.inc →
          IsLined before w.x w.binding w.server × IsActiveIn st before w.server w.x w.binding w.inc
      by (inl r) z = (
        subst (λ ls. IsLined ls w.x w.binding w.server) (sym r.1) (lined_more q.first r.0 w.x w.binding w.server z.0),
        subst (λ ls. IsActiveIn st ls w.server w.x w.binding w.inc) (sym r.1)
            (active_in_more st q.first r.0 w.server w.x w.binding w.inc z.1),
      )
      by (inr r) z =
          let was : is_called q.first u = subst (λ ls. is_called ls u) (sym r.1) (called_more before r.0 u called) in
          let no_way : true ≡ false = sym was ∙ q.uncalled in absurd (cc no_way)
