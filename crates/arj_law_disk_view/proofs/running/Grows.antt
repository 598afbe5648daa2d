-- What a walk of an object's machine decides, and by whom; and what more lines say.
use Rattle.arj_law_parts.proofs.Words
use Words.{◌≡◌, ◌⊎◌, ◌==◌, ℕ, List, [], ◌∷◌, ◌++◌, Bool, true, false, Option, Some, None, refl, sym, ◌∙◌, ap, subst, inl, inr, ⊎_elim}
use Words.{eqb-true, Contains, if◌then◌else◌, is_on, in_from, in_to, Asked, Ask, BoundReply, Head, Line, Message, Uid, asks, Reply, answers}
use Words.{Machine, Calling, Committing, Coord, Doing, Idle as Waiting, Now, doing_of, Disk, Intent, Naming, Parts, uid_number}
use Words.{is_committing_now, number_tells, Seen}
use Words.ask
use Words.commit
use Rattle.arj_law_disk_view.proofs.Terms
use Terms.{Effect, Follows, World, after, done_of, run, AreOnlyOf, Decides, Note, is_only_of, only_decides, Office, Done, decided}
use Terms.{decided_in, In, bool_cases, never, or_cases, or_right, down, up, KnowsNode, Along, Kinds, Answering, Change, Changes, Deciding}
use Terms.{Quietly, answer_change, ask_change, asked_change, bind_change, change_by, doing_change, now_change, reply_change, book, new_book}
use Terms.{IsKept, KnowsUp, Later, book_more, AreOnce, NewTops, are_recorded}
use Terms.machine
use Rattle.arj_law_disk_view.proofs.view.Frames.{node_here}
use Rattle.arj_law_runs.proofs.journal.Books.{later_from}
use Rattle.arj_law_runs.specs.journal.Right.{MayBeFound}

pub in_both : (d : Done) (xs ys : List Done) → In d (xs ++ ys) → In d xs ⊎ In d ys
in_both d [] ys i = inr i
in_both d (x ∷ xs) ys (inl same) = inl (inl same)
in_both d (x ∷ xs) ys (inr i) = ⊎_elim (λ a. inl (inr a)) (λ b. inr b) (in_both d xs ys i)

pub in_front : (d : Done) (xs ys : List Done) → In d xs → In d (xs ++ ys)
in_front d [] ys i = absurd i
in_front d (x ∷ xs) ys (inl same) = inl same
in_front d (x ∷ xs) ys (inr i) = inr (in_front d xs ys i)

-- ---- more lines

pub later_lines : (ls ks : List Line) → Later (book ls) (book (ls ++ ks))
later_lines ls ks = subst (Later (book ls)) (sym (book_more new_book ls ks)) (later_from (book ls) ks)

pub called_later : (ls ks : List Line) (u : Uid) → is_on (book ls).called u ≡ true → is_on (book (ls ++ ks)).called u ≡ true
called_later ls ks u on = let l : Later (book ls) (book (ls ++ ks)) = later_lines ls ks in l.called u on

-- ---- what a walk of the machine decides

-- tops that weren't decided, and that may be
pub record Grew (f : Note → Bool) (W V : World) : Type 0 where
  pub new : List Done
  pub are : V.disk.tops ≡ new ++ W.disk.tops
  pub undone : (d : Done) → In d new → decided W.disk d.top ≡ false
  pub once : AreOnce W.disk.tops → AreOnce V.disk.tops
  pub noted : (d : Done) → In d new → f (Decides d.top) ≡ true

module _ (f : Note → Bool) where
  same_tops : (W V : World) → V.disk.tops ≡ W.disk.tops → Grew f W V
  same_tops W V is = record { new = []; are = is; undone = λ d i. absurd i; once = λ o. subst AreOnce (sym is) o; noted = λ d i. absurd i }

  effect_grows : (W : World) (e : Effect) → is_only_of f e ≡ true → machine.Allowed W e → Grew f W (after W e)
  effect_grows W (machine.Decide t) only can =
      record { new = done_of W.disk t ∷ []; are = refl; undone = λ d i. by d i; once = λ o. (can.1, o); noted = λ d i. on d i }
    where
      by : (d : Done) → In d (done_of W.disk t ∷ []) → decided W.disk d.top ≡ false
      by d (inl same) = ap (λ (c : Done). decided W.disk c.top) (sym same) ∙ can.1
      by d (inr i) = absurd i

      on : (d : Done) → In d (done_of W.disk t ∷ []) → f (Decides d.top) ≡ true
      on d (inl same) = ap (λ (c : Done). f (Decides c.top)) (sym same) ∙ only
      on d (inr i) = absurd i
  effect_grows W (machine.Begin t p) only can = same_tops W (after W (machine.Begin t p)) refl
  effect_grows W (machine.Take t s) only can = same_tops W (after W (machine.Take t s)) refl
  effect_grows W (machine.Seal t) only can = same_tops W (after W (machine.Seal t)) refl
  effect_grows W (machine.Intend t nodes) only can = same_tops W (after W (machine.Intend t nodes)) refl
  effect_grows W (machine.Remove t nodes) only can = same_tops W (after W (machine.Remove t nodes)) refl
  effect_grows W (machine.EndBare t) only can = same_tops W (after W (machine.EndBare t)) refl
  effect_grows W (machine.Halt t) only can = same_tops W (after W (machine.Halt t)) refl
  effect_grows W (machine.Keep t s) only can = same_tops W (after W (machine.Keep t s)) refl
  effect_grows W (machine.Move s h) only can = same_tops W (after W (machine.Move s h)) refl
  effect_grows W (machine.Finish s h) only can = same_tops W (after W (machine.Finish s h)) refl
  effect_grows W (machine.Drop s h) only can = same_tops W (after W (machine.Drop s h)) refl
  effect_grows W (machine.Agree t) only can = same_tops W (after W (machine.Agree t)) refl
  effect_grows W (machine.Pass t) only can = same_tops W (after W (machine.Pass t)) refl
  effect_grows W (machine.Enter t) only can = same_tops W (after W (machine.Enter t)) refl
  effect_grows W (machine.MoveEntry h) only can = same_tops W (after W (machine.MoveEntry h)) refl
  effect_grows W (machine.FinishEntry h) only can = same_tops W (after W (machine.FinishEntry h)) refl
  effect_grows W (machine.DropEntry h) only can = same_tops W (after W (machine.DropEntry h)) refl
  effect_grows W (machine.Forget r h) only can = same_tops W (after W (machine.Forget r h)) refl
  effect_grows W (machine.Send m) only can = same_tops W (after W (machine.Send m)) refl

  grown_on : (W U V : World) → Grew f W U → Grew f U V → Grew f W V
  grown_on W U V a b = record {
    new = b.new ++ a.new;
    are = b.are ∙ ap (λ ds. b.new ++ ds) a.are ∙ sym (dones_more b.new a.new W.disk.tops);
    undone = λ d i. ⊎_elim (λ here. earlier d (b.undone d here)) (λ there. a.undone d there) (in_both d b.new a.new i);
    once = λ o. b.once (a.once o);
    noted = λ d i. ⊎_elim (λ here. b.noted d here) (λ there. a.noted d there) (in_both d b.new a.new i);
  }
    where
      dones_more : (xs ys zs : List Done) → (xs ++ ys) ++ zs ≡ xs ++ (ys ++ zs)
      dones_more [] ys zs = refl
      dones_more (x ∷ xs) ys zs = ap (λ ws. x ∷ ws) (dones_more xs ys zs)

      among : (t : ℕ) (xs ys : List Done) → decided_in ys t ≡ true → decided_in (xs ++ ys) t ≡ true
      among t [] ys on = on
      among t (x ∷ xs) ys on = or_right (x.top == t) (decided_in (xs ++ ys) t) (among t xs ys on)

      earlier : (d : Done) → decided U.disk d.top ≡ false → decided W.disk d.top ≡ false
      earlier d off = ⊎_elim (λ on. absurd (never (ap (λ ds. decided_in ds d.top) a.are ∙ among d.top a.new W.disk.tops on) off)) (λ no. no)
          (bool_cases (decided W.disk d.top))

  pub effects_grow : (W : World) (es : List Effect) → AreOnlyOf f es → Follows W es → Grew f W (run W es)
  effects_grow W [] only follows = same_tops W W refl
  effects_grow W (e ∷ es) only follows =
      grown_on W (after W e) (run W (e ∷ es)) (effect_grows W e only.0 follows.0) (effects_grow (after W e) es only.1 follows.1)

-- ---- who may be decided

-- the top with this number commits at the coordinator
pub record IsCommitting (c : Coord) (z : ℕ) : Type 0 where
  pub top : Uid
  pub doing : Doing
  pub machine : Machine
  pub does : doing_of top c ≡ Some doing
  pub now : (let d = doing in d.now) ≡ Committing machine
  pub number : uid_number top ≡ z

-- the top of a decision
abbrev top_in : Change → Option ℕ
top_in (Deciding z keeps) = Some z
top_in o = None

pub no_decision : {A : Type 0} (o : Change) (z : ℕ) (keeps : Bool) → top_in o ≡ None → o ≡ Deciding z keeps → A
no_decision o z keeps none is = let no_way : ◌≡◌ {A = Option ℕ} None (Some z) = sym none ∙ ap top_in is in cc

pub who_decides : (x : ℕ) (d : Disk) (t : Parts) (m : Message) (z : ℕ) (keeps : Bool) → change_by x d t m ≡ Deciding z keeps →
    IsCommitting t.coord z
who_decides x d t m z keeps is = by (asks m) is
  where
    replied : (y : ℕ) (u : Uid) (o : Option BoundReply) → top_in (answer_change x y u o) ≡ None
    replied y u None = refl
    replied y u (Some r) = one (y == x)
      where
        one : (b : Bool) → top_in (if b then Answering (uid_number u) r else Quietly) ≡ None
        one true = refl
        one false = refl

    bound_so : (y : ℕ) (include : Bool) (avoid : _) (h : Head) (o : Option Naming) → top_in (bind_change x y include avoid h d o) ≡ None
    bound_so y include avoid h None = refl
    bound_so y include avoid h (Some n) = replied y _ _

    asked : (h : Head) (a : Ask) → top_in (ask_change x d t h a) ≡ None
    asked h (ask.Bind y include avoid) = bound_so y include avoid h t.naming
    asked h (ask.Load y) = refl
    asked h (ask.Activate b st) = refl
    asked h (ask.Record y b i g) = refl
    asked h (ask.Invoke y b i ends o) = refl
    asked h (ask.Vote i ties ends) = refl
    asked h (ask.Prepare states) = refl
    asked h (ask.Confirm grants excluded included) = refl

    some_is : (a b : ℕ) → Some a ≡ Some b → a ≡ b
    some_is a b e = let q : ◌≡◌ {A = Option ℕ} (Some a) (Some b) = e in cc

    by_machine : (u : Uid) (q : Doing) → doing_of u t.coord ≡ Some q → (j : Machine) → q.now ≡ Committing j →
        now_change x u t.coord (Committing j) ≡ Deciding z keeps → IsCommitting t.coord z
    by_machine u q does (commit.Voting p left) at e = no_decision Quietly z keeps refl e
    by_machine u q does (commit.Preparing p left) at e = no_decision Quietly z keeps refl e
    by_machine u q does (commit.Confirming p) at e =
        record { top = u; doing = q; machine = commit.Confirming p; does = does; now = at; number = some_is (uid_number u) z (ap top_in e) }

    by_now : (u : Uid) (q : Doing) → doing_of u t.coord ≡ Some q → (n : Now) → q.now ≡ n → now_change x u t.coord n ≡ Deciding z keeps →
        IsCommitting t.coord z
    by_now u q does Waiting at e = no_decision Quietly z keeps refl e
    by_now u q does (Calling s) at e = no_decision Quietly z keeps refl e
    by_now u q does (Committing j) at e = by_machine u q does j at e

    by_doing : (u : Uid) (o : Option Doing) → doing_of u t.coord ≡ o → doing_change x u t.coord o ≡ Deciding z keeps →
        IsCommitting t.coord z
    by_doing u None does e = no_decision Quietly z keeps refl e
    by_doing u (Some q) does e = by_now u q does q.now refl e

    by_reply : (o : Option (Asked × Reply)) → reply_change x t.coord o ≡ Deciding z keeps → IsCommitting t.coord z
    by_reply None e = no_decision Quietly z keeps refl e
    by_reply (Some a) e = let u = (let q = a.0 in q.act) in by_doing u (doing_of u t.coord) refl e

    by : (o : Option (Head × Ask)) → asked_change x d t m o ≡ Deciding z keeps → IsCommitting t.coord z
    by None e = by_reply (answers m) e
    by (Some a) e = no_decision (ask_change x d t a.0 a.1) z keeps (asked a.0 a.1) e

-- its commit was called
pub called_there : (tops : Kinds) (k : ℕ) (d : Disk) (t : Parts) (M : Seen) → KnowsNode tops k d t M → IsKept (up k d t M) → (z : ℕ) →
    IsCommitting t.coord z → (u : Uid) → uid_number u ≡ z → is_on (book M.lines).called u ≡ true
called_there tops k d t M n kept z c u uz =
    let m = (let q = n.coord in q.machines c.top c.doing c.machine c.does c.now) in
    let w = kept.1 in
    let node = w.nodes k (record { number = k; disk = d; live = Some t })
    (node_here M k (record { number = k; disk = d; live = Some t })) in
    let l : KnowsUp (book M.lines) d.intents t.coord = node.live t refl in
    subst (λ v. is_on (book M.lines).called v ≡ true) (number_tells c.top u (c.number ∙ sym uz))
    (l.calls c.top m.branch c.doing m.found c.does m.unended ∙ ap is_committing_now c.now)

-- a top with a record
pub recorded_there : (intents : List (Uid × Intent)) (z : ℕ) → are_recorded intents z ≡ true →
    (e : Uid × Intent) × Contains intents e × (uid_number e.0 ≡ z)
recorded_there [] z on = let no_way : false ≡ true = on in cc
recorded_there (e ∷ es) z on =
    ⊎_elim (λ here. (e, in_to e (e ∷ es) (inl refl), eqb-true (uid_number e.0) z here)) (λ rest. let r = recorded_there es z rest in
    (r.0, in_to r.0 (e ∷ es) (inr (in_from r.0 es r.1)), r.2)) (or_cases (uid_number e.0 == z) (are_recorded es z) on)

pub found_there : (k : ℕ) (d : Disk) (M : Seen) → IsKept (down k d M) → (z : ℕ) → are_recorded d.intents z ≡ true → (u : Uid) →
    uid_number u ≡ z → is_on (book M.lines).called u ≡ true
found_there k d M kept z on u uz =
    let r = recorded_there d.intents z on in
    let w = kept.1 in
    let node = w.nodes k (record { number = k; disk = d; live = None }) (node_here M k (record { number = k; disk = d; live = None })) in
    let found : MayBeFound (book M.lines) k (let e = r.0 in e.0) = node.records (let e = r.0 in e.0) (let e = r.0 in e.1) r.1 in
    subst (λ v. is_on (book M.lines).called v ≡ true) (number_tells (let e = r.0 in e.0) u (r.2 ∙ sym uz)) found.called

-- ---- what a step decides

pub along_new : (g : ℕ → Bool) (lines : List Line) (W V : machine.World) → ((z : ℕ) → g z ≡ true → (u : Uid) → uid_number u ≡ z →
    is_on (book lines).called u ≡ true) → Along (record { from = W; noted = only_decides g }) V → NewTops W V lines
along_new g lines W V called a =
    let n = effects_grow (only_decides g) W a.effects a.only a.allowed in
    record {
      new = n.new;
      are = ap (λ (U : machine.World). U.disk.tops) (sym a.here) ∙ n.are;
      undone = n.undone;
      once = λ o. subst (λ (U : machine.World). AreOnce U.disk.tops) a.here (n.once o);
      called = λ d i u ud. called d.top (n.noted d i) u ud;
    }

none_new : (lines : List Line) (W V : machine.World) → V.disk.tops ≡ W.disk.tops → NewTops W V lines
none_new lines W V is =
    record { new = []; are = is; undone = λ d i. absurd i; once = λ o. subst AreOnce (sym is) o; called = λ d i. absurd i }

pub changes_new : (o : Change) (lines : List Line) (A B : Office) → ((z : ℕ) (keeps : Bool) → o ≡ Deciding z keeps → (u : Uid) →
    uid_number u ≡ z → is_on (book lines).called u ≡ true) → Changes o A B → NewTops A.world B.world lines
changes_new Quietly lines A B called c = none_new lines A.world B.world c.tops
changes_new (Answering t r) lines A B called c = none_new lines A.world B.world (let o = c.0 in o.tops)
changes_new (Deciding t keeps) lines A B called c =
    along_new (λ z. z == t) lines A.world B.world (λ z on u uz. called t keeps refl u (uz ∙ eqb-true z t on)) c.along

pub quietly : {A : Type 0} (z : ℕ) (keeps : Bool) → Quietly ≡ Deciding z keeps → A
quietly z keeps is = no_decision Quietly z keeps refl is
