-- The test of a journal is that it follows its events.
use Rattle.std.specs.Bool.{Decides}
use Rattle.std.specs.List.{list_all, AllByRecursion}
use Rattle.std.specs.Prelude.{◌≡◌, ◌⊎◌, ◌<◌, ◌≤◌, ◌+◌, ◌-◌, ◌==◌, ◌&&◌, ◌||◌, ◌++◌, ◌∷◌, [], ℕ, List, Bool, true, false, not, cond}
use Rattle.std.specs.Prelude.{length, drop, replicate, nat_lt, is_some}
use Rattle.std.specs.Prelude.{if◌then◌else◌, Option, Some, None, MatchOption, refl}
use Rattle.std.specs.Str.{bytes_eq}
use Rattle.std.proofs.Common.{sym, ◌∙◌, ap, subst, arith, inl, inr, ⊎_elim}
use Rattle.std.proofs.Math.Path.{PathP, to_path_p}
use Rattle.std.proofs.Props.{props}
use Rattle.std.proofs.lemmas.Bool.{and_parts, eqb-true, eq-eqb}
use Rattle.std.proofs.lemmas.Bool.Decides.{Decides-and, Decides-eqb, Decides-like, Decides-ltb, Decides-or, nat_tests}
use Rattle.std.proofs.lemmas.List.{append_assoc, append_cancel_left, append-nil, length-take, take-append-drop}
use Rattle.std.proofs.lemmas.Slice.Eq.{bytes_eq-Decides}
use Rattle.arj_base.proofs.Uids.{uid_is, uid_same}
use Rattle.arj_base.specs.State.{class_code_of}
use Rattle.arj_base.specs.Uid.{uid_eq}
use Rattle.arj_base.specs.declared.state.Class.{Class}
use Rattle.arj_base.specs.declared.state.Class.TheVariants as class
use Rattle.arj_base.specs.declared.uid.Uid.{Uid}
use Rattle.arj_class.specs.declared.op.Op.{Op}
use Rattle.arj_class.specs.declared.op.Op.TheVariants.{Get, Add, Set, Put, Deposit, Withdraw, Len, Push, Pop, GetKey, PutPair, Remove, Create, Destroy}
use Rattle.arj_class.specs.declared.value.Value.{Value}
use Rattle.arj_class.specs.declared.value.Value.TheVariants as value
use Rattle.arj_journal.specs.declared.body.Body.{Body}
use Rattle.arj_journal.specs.declared.body.Body.TheVariants as body
use Rattle.arj_journal.specs.declared.body.Cause.TheVariants as cause
use Rattle.arj_journal.specs.declared.body.FrameKind.TheVariants as frame
use Rattle.arj_journal.specs.declared.body.Kind.{Kind}
use Rattle.arj_journal.specs.declared.body.Kind.TheVariants as kind
use Rattle.arj_journal.specs.declared.body.Line.{Line}
use Rattle.arj_journal.specs.declared.body.Which.TheVariants as which
use Rattle.arj_journal.specs.declared.event.Event.{Event}
use Rattle.arj_journal.specs.declared.event.Event.TheVariants as event
use Rattle.arj_journal.specs.declared.header.Header.{Header}
use Rattle.arj_text.specs.declared.label.Label.{Label}
use Rattle.arj_text.specs.Label.{name}
use Rattle.arj_start.specs.Kinds.{is_serial}
use Rattle.arj_start.specs.Start.{Start}
use Rattle.arj_model.specs.Actions.{Act, acts, act_in}
use Rattle.arj_model.specs.CauseSpans.{holds_in, is_call_of, is_doomed, is_include_of, same_op, same_pairs, same_value}
use Rattle.arj_model.specs.Follows.{Accepted, AnswerFits, AnswersFit, AreEnding, Follows, IsCallOf, IsIncludeOf, IsRefusedDoomed, Step}
use Rattle.arj_model.specs.Follows.{is_behind_doom, is_ending, is_frame_limit, is_limited, label_doomed}
use Rattle.arj_model.specs.Own.{AreAborted, AreGiveUps, Begins, BeginsBelow, BeginsCommit, Ends, IsFrameLimit, MayMeetLimit}
use Rattle.arj_model.specs.Own.{aborted_of, commit_line, halts_fit, may_stand, node_of}
use Rattle.arj_model.specs.Past.{Along, Asked, Past, asked_of, at_start, block, next}
use Rattle.arj_model.specs.Refusals.{frame_no, incarnation, is_committing, is_down, is_first, is_serializing, last_frame, next_uid}
use Rattle.arj_model.specs.Refusals.{open_frames, refusal}
use Rattle.arj_model.specs.Refusals.{waits_for}
use Rattle.arj_cause_tests.proofs.Answers.{answers_decide}
use Rattle.arj_cause_tests.specs.Answers.{answers, is_nil}
use Rattle.arj_cause_tests.specs.Followed
use Followed.{answer_fits, answers_fit, are_aborted, are_ending, are_giveups, back, begins, begins_below, begins_commit, ends, follows}
use Followed.{front}
use Followed.{go_along, goes_on, is_accepted, is_limit, is_one, is_quiet, is_refused_doomed, is_run, is_step, is_up_above, kind_code}
use Followed.{may_meet_limit}
use Followed.{same_body, same_label, same_parent, some_cut}

-- ---- labels, operations and lines

-- the facts that a label keeps have one proof each
label_by : (a b : Label) → (e : a.len ≡ b.len) → (f : a.text ≡ b.text) → a ≡ b
label_by a b e f =
    let whole_prop : IsProp (length b.text ≡ 16) = hlevel props in
    let short_prop : IsProp (b.len ≤ 16) = hlevel props in
    let zeros_prop : IsProp (drop b.len b.text ≡ replicate (16 - b.len) 0) = hlevel props in
    let whole : PathP (λ i. length (f i) ≡ 16) a.whole b.whole = to_path_p (λ i. length (f i) ≡ 16) (whole_prop _ _) in
    let short : PathP (λ i. e i ≤ 16) a.short b.short = to_path_p (λ i. e i ≤ 16) (short_prop _ _) in
    let zeros : PathP (λ i. drop (e i) (f i) ≡ replicate (16 - e i) 0) a.zeros b.zeros =
    to_path_p (λ i. drop (e i) (f i) ≡ replicate (16 - e i) 0) (zeros_prop _ _) in
    λ i. record { len = e i; text = f i; whole = whole i; short = short i; zeros = zeros i }

label_text : (l : Label) → name l ++ replicate (16 - l.len) 0 ≡ l.text
label_text l = ap (λ rest. name l ++ rest) (sym l.zeros) ∙ take-append-drop l.len l.text

label_length : (l : Label) → length (name l) ≡ l.len
label_length l = let short : l.len ≤ 16 = l.short in omega (arith, l.whole, length-take l.len l.text)

label_is : (a b : Label) → same_label a b ≡ true → a ≡ b
label_is a b is =
    let e : name a ≡ name b = (bytes_eq-Decides (name a) (name b)).0 is in
    let len : a.len ≡ b.len = sym (label_length a) ∙ (ap length e ∙ label_length b) in
    let padded : name a ++ replicate (16 - a.len) 0 ≡ name b ++ replicate (16 - b.len) 0 = λ i. e i ++ replicate (16 - len i) 0 in
    label_by a b len (sym (label_text a) ∙ (padded ∙ label_text b))

bytes_same : (bs : List ℕ) → bytes_eq bs bs ≡ true
bytes_same bs = (bytes_eq-Decides bs bs).1 refl

label_same : (a : Label) → same_label a a ≡ true
label_same a = bytes_same (name a)

label_decides : (a b : Label) → Decides (same_label a b) (a ≡ b)
label_decides a b = (label_is a b, λ e. ap (same_label a) (sym e) ∙ label_same a)

parent_is : (a b : Option Label) → same_parent a b ≡ true → a ≡ b
parent_is None None is = refl
parent_is (Some a) (Some b) is = ap Some (label_is a b is)
parent_is None (Some b) is = absurd (cc is)
parent_is (Some a) None is = absurd (cc is)

parent_same : (a : Option Label) → same_parent a a ≡ true
parent_same None = refl
parent_same (Some a) = label_same a

number_same : (n : ℕ) → (n == n) ≡ true
number_same n = eq-eqb n n refl

class_is : (c d : Class) → (class_code_of c == class_code_of d) ≡ true → c ≡ d
class_is class.Entry class.Entry is = refl
class_is class.Counter class.Counter is = refl
class_is class.Register class.Register is = refl
class_is class.Account class.Account is = refl
class_is class.Queue class.Queue is = refl
class_is class.Table class.Table is = refl
class_is class.Gone class.Gone is = refl
class_is c d is = absurd (cc is)

pairs_are : (ps qs : List (ℕ × ℕ)) → same_pairs ps qs ≡ true → ps ≡ qs
pairs_are [] [] is = refl
pairs_are (p ∷ ps) (q ∷ qs) is =
    let k = and_parts (p.0 == q.0) ((p.1 == q.1) && same_pairs ps qs) is in
    let v = and_parts (p.1 == q.1) (same_pairs ps qs) k.1 in
    λ i. (eqb-true p.0 q.0 k.0 i, eqb-true p.1 q.1 v.0 i) ∷ pairs_are ps qs v.1 i
pairs_are ps qs is = absurd (cc is)

pairs_same : (ps : List (ℕ × ℕ)) → same_pairs ps ps ≡ true
pairs_same [] = refl
pairs_same (p ∷ ps) = λ i. number_same p.0 i && (number_same p.1 i && pairs_same ps i)

value_is : (v w : Value) → same_value v w ≡ true → v ≡ w
value_is (value.Counter m) (value.Counter n) is = ap value.Counter (eqb-true m n is)
value_is (value.Register m) (value.Register n) is = ap value.Register ((bytes_eq-Decides m n).0 is)
value_is (value.Account m) (value.Account n) is = ap value.Account (eqb-true m n is)
value_is (value.Queue m) (value.Queue n) is = ap value.Queue ((bytes_eq-Decides m n).0 is)
value_is (value.Table m) (value.Table n) is = ap value.Table (pairs_are m n is)
value_is (value.Gone c) (value.Gone d) is = ap value.Gone (class_is c d is)
value_is v w is = absurd (cc is)

value_same : (v : Value) → same_value v v ≡ true
value_same (value.Counter m) = number_same m
value_same (value.Register m) = bytes_same m
value_same (value.Account m) = number_same m
value_same (value.Queue m) = bytes_same m
value_same (value.Table m) = pairs_same m
value_same (value.Gone c) = number_same (class_code_of c)

op_is : (a b : Op) → same_op a b ≡ true → a ≡ b
op_is Get Get is = refl
op_is (Add m) (Add n) is = ap Add (eqb-true m n is)
op_is (Set m) (Set n) is = ap Set (eqb-true m n is)
op_is (Put m) (Put n) is = ap Put ((bytes_eq-Decides m n).0 is)
op_is (Deposit m) (Deposit n) is = ap Deposit (eqb-true m n is)
op_is (Withdraw m) (Withdraw n) is = ap Withdraw (eqb-true m n is)
op_is Len Len is = refl
op_is (Push m) (Push n) is = ap Push (eqb-true m n is)
op_is Pop Pop is = refl
op_is (GetKey m) (GetKey n) is = ap GetKey (eqb-true m n is)
op_is (PutPair j m) (PutPair k n) is = let p = and_parts (j == k) (m == n) is in λ i. PutPair (eqb-true j k p.0 i) (eqb-true m n p.1 i)
op_is (Remove m) (Remove n) is = ap Remove (eqb-true m n is)
op_is (Create v) (Create w) is = ap Create (value_is v w is)
op_is Destroy Destroy is = refl
op_is a b is = absurd (cc is)

op_same : (a : Op) → same_op a a ≡ true
op_same (Put m) = bytes_same m
op_same (PutPair j m) = λ i. number_same j i && number_same m i
op_same Get = refl
op_same Len = refl
op_same Pop = refl
op_same (Add m) = number_same m
op_same (Set m) = number_same m
op_same (Deposit m) = number_same m
op_same (Withdraw m) = number_same m
op_same (Push m) = number_same m
op_same (GetKey m) = number_same m
op_same (Remove m) = number_same m
op_same (Create v) = value_same v
op_same Destroy = refl

op_decides : (a b : Op) → Decides (same_op a b) (a ≡ b)
op_decides a b = (op_is a b, λ e. ap (same_op a) (sym e) ∙ op_same a)

kind_is : (k j : Kind) → (kind_code k == kind_code j) ≡ true → k ≡ j
kind_is kind.Top kind.Top is = refl
kind_is kind.Nested kind.Nested is = refl
kind_is kind.Independent kind.Independent is = refl
kind_is kind.Serial kind.Serial is = refl
kind_is kind.Constituent kind.Constituent is = refl
kind_is k j is = absurd (cc is)

body_is : (b c : Body) → same_body b c ≡ true → b ≡ c
body_is (body.Began l k u p) (body.Began m j w q) is =
    let one = and_parts (same_label l m) ((kind_code k == kind_code j) && (uid_eq u w && same_parent p q)) is in
    let two = and_parts (kind_code k == kind_code j) (uid_eq u w && same_parent p q) one.1 in
    let three = and_parts (uid_eq u w) (same_parent p q) two.1 in
    λ i. body.Began (label_is l m one.0 i) (kind_is k j two.0 i) (uid_is u w three.0 i) (parent_is p q three.1 i)
body_is (body.Committing l) (body.Committing m) is = ap body.Committing (label_is l m is)
body_is (body.Committed l) (body.Committed m) is = ap body.Committed (label_is l m is)
body_is (body.Ended l) (body.Ended m) is = ap body.Ended (label_is l m is)
body_is (body.Aborted l cause.Doomed) (body.Aborted m cause.Doomed) is = ap (λ x. body.Aborted x cause.Doomed) (label_is l m is)
body_is (body.Sent k from to frame.Junk) (body.Sent j m n frame.Junk) is =
    let one = and_parts (k == j) ((from == m) && (to == n)) is in
    let two = and_parts (from == m) (to == n) one.1 in
    λ i. body.Sent (eqb-true k j one.0 i) (eqb-true from m two.0 i) (eqb-true to n two.1 i) frame.Junk
body_is (body.Got k) (body.Got j) is = ap body.Got (eqb-true k j is)
body_is (body.Void k) (body.Void j) is = ap body.Void (eqb-true k j is)
body_is (body.Dropped k) (body.Dropped j) is = ap body.Dropped (eqb-true k j is)
body_is (body.Halted n) (body.Halted m) is = ap body.Halted (eqb-true n m is)
body_is (body.Armed n) (body.Armed m) is = ap body.Armed (eqb-true n m is)
body_is (body.Refused c) (body.Refused d) is = ap body.Refused (eqb-true c d is)
body_is b c is = absurd (cc is)

began_same : (l : Label) (k : Kind) (u : Uid) (p : Option Label) → same_body (body.Began l k u p) (body.Began l k u p) ≡ true
began_same l k u p = λ i. label_same l i && (number_same (kind_code k) i && (uid_same u i && parent_same p i))

-- ---- lists

nil_decides : {A : Type 0} (xs : List A) → Decides (is_nil xs) (xs ≡ [])
nil_decides [] = (λ e. refl, λ e. refl)
nil_decides (x ∷ xs) = (λ e. absurd (cc e), λ e. absurd (cc e))

-- one line, which is the same as itself
one_decides : (b : Body) → same_body b b ≡ true → (bs : List Body) → Decides (is_one b bs) (bs ≡ b ∷ [])
one_decides b itself bs = (to bs, λ e. ap (is_one b) e ∙ itself)
  where
    to : (bs : List Body) → is_one b bs ≡ true → bs ≡ b ∷ []
    to [] is = absurd (cc is)
    to (c ∷ []) is = ap (λ x. x ∷ []) (sym (body_is b c is))
    to (c ∷ d ∷ rest) is = absurd (cc is)

-- a test of what may not be there
module _ {A : Type 0} (test : A → Bool) (P : A → Type 0) (each : (a : A) → Decides (test a) (P a)) where
  there_decides : (o : Option A) → Decides (holds_in test o) ((a : A) × (o ≡ Some a) × P a)
  there_decides None = (λ e. absurd (cc e), λ h. let no_way : ◌≡◌ {A = Option A} None (Some h.0) = h.1 in absurd (cc no_way))
  there_decides (Some a) = (
    λ e. (a, refl, (each a).0 e),
    λ h. let same : ◌≡◌ {A = Option A} (Some a) (Some h.0) = h.1 in let is : a ≡ h.0 = cc same in (each a).1 (subst P (sym is) h.2),
  )

-- some cut passes a test exactly where it is so of one
pub record IsCut {A : Type 0} (P : List A → List A → Type 0) (xs : List A) : Type 0 where
  pub front : List A
  pub back : List A
  pub parts : xs ≡ front ++ back
  pub so : P front back

cut_decides : {A : Type 0} (test : List A → List A → Bool) (P : List A → List A → Type 0) → ((a b : List A) → Decides (test a b) (P a b)) →
    (xs : List A) → Decides (some_cut test xs) (IsCut P xs)
cut_decides {A = A} test P each [] = (
  λ e. record { front = []; back = []; parts = refl; so = (each [] []).0 e },
  λ h. (each [] []).1 (nothing h.front h.back h.parts h.so),
)
  where
    nothing : (a b : List A) → [] ≡ a ++ b → P a b → P [] []
    nothing [] [] e so = so
    nothing [] (b ∷ bs) e so = absurd (cc e)
    nothing (a ∷ rest) b e so = absurd (cc e)
cut_decides {A = A} test P each (x ∷ xs) = first_cut test P each x xs
    (cut_decides (λ a b. test (x ∷ a) b) (λ a b. P (x ∷ a) b) (λ a b. each (x ∷ a) b) xs)
  where
    first_cut : {A : Type 0} (test : List A → List A → Bool) (P : List A → List A → Type 0) →
        ((a b : List A) → Decides (test a b) (P a b)) → (x : A) (xs : List A) →
        Decides (some_cut (λ a b. test (x ∷ a) b) xs) (IsCut (λ a b. P (x ∷ a) b) xs) → Decides (some_cut test (x ∷ xs)) (IsCut P (x ∷ xs))
    first_cut {A} test P each x xs more = (
      λ e. ⊎_elim (λ here. record { front = []; back = x ∷ xs; parts = refl; so = here })
          (λ (later : IsCut (λ a b. P (x ∷ a) b) xs).
          record { front = x ∷ later.front; back = later.back; parts = ap (λ r. x ∷ r) later.parts; so = later.so }) (both.0 e),
      λ h. both.1 (split h.front h.back h.parts h.so),
    )
      where
        both : Decides (some_cut test (x ∷ xs)) (P [] (x ∷ xs) ⊎ IsCut (λ a b. P (x ∷ a) b) xs)
        both = Decides-or (test [] (x ∷ xs)) (some_cut (λ a b. test (x ∷ a) b) xs) (each [] (x ∷ xs)) more

        split : (a b : List A) → x ∷ xs ≡ a ++ b → P a b → P [] (x ∷ xs) ⊎ IsCut (λ a b. P (x ∷ a) b) xs
        split [] b e so = inl (subst (P []) (sym e) so)
        split (y ∷ a) b e so =
            let first : x ≡ y = cc e in let rest : xs ≡ a ++ b = cc e in
            inr (record { front = a; back = b; parts = rest; so = subst (λ z. P (z ∷ a) b) (sym first) so })

-- ---- how an event begins

true_decides : (b : Bool) → Decides b (b ≡ true)
true_decides b = (λ e. e, λ e. e)

false_decides : (b : Bool) → Decides (not b) (b ≡ false)
false_decides true = (λ e. absurd (cc e), λ e. absurd (cc e))
false_decides false = (λ e. refl, λ e. refl)

began_decides : (l : Label) (k : Kind) (u : Uid) (p : Option Label) (own : List Body) → Decides (is_one (body.Began l k u p) own)
    (own ≡ body.Began l k u p ∷ [])
began_decides l k u p own = one_decides (body.Began l k u p) (began_same l k u p) own

-- three facts, one beside another
three : {P Q R : Type 0} (b : Bool) → Decides b (P × (Q × R)) → Decides b (P × Q × R)
three b d = (λ e. let h = d.0 e in (h.0, h.1.0, h.1.1), λ h. d.1 (h.0, (h.1, h.2)))

aborted_decides : (as_begun : List Act) (own : List Body) → Decides (are_aborted as_begun own) (AreAborted as_begun own)
aborted_decides [] [] = (λ e. tt, λ e. refl)
aborted_decides [] (b ∷ own) = (λ e. absurd (cc e), λ h. absurd h)
aborted_decides (a ∷ rest) (body.Aborted l cause.Asked ∷ own) =
    Decides-and (bytes_eq (name l) a.label) (are_aborted rest own) (bytes_eq-Decides (name l) a.label) (aborted_decides rest own)
aborted_decides (a ∷ rest) own = (λ e. absurd (cc e), λ h. absurd h)

commit_decides : (past : Past) (l : Label) (o : Option Act) (own : List Body) →
    Decides (begins_commit past l o own) (BeginsCommit past l o own)
commit_decides past l None own = (λ e. absurd (cc e), λ h. absurd h)
commit_decides past l (Some a) own =
    Decides-or (is_one (commit_line a.kind l) own)
    (is_one (body.Aborted l cause.Doomed) own && (not (is_serial a.kind) && is_doomed past.accepted past.lines (name l)))
    (one_decides (commit_line a.kind l) (itself a.kind) own)
    (three (is_one (body.Aborted l cause.Doomed) own && (not (is_serial a.kind) && is_doomed past.accepted past.lines (name l)))
    (Decides-and (is_one (body.Aborted l cause.Doomed) own) (not (is_serial a.kind) && is_doomed past.accepted past.lines (name l))
    (one_decides (body.Aborted l cause.Doomed) (label_same l) own)
    (Decides-and (not (is_serial a.kind)) (is_doomed past.accepted past.lines (name l)) (false_decides (is_serial a.kind))
    (true_decides (is_doomed past.accepted past.lines (name l))))))
  where
    itself : (k : Kind) → same_body (commit_line k l) (commit_line k l) ≡ true
    itself kind.Nested = label_same l
    itself kind.Serial = label_same l
    itself kind.Top = label_same l
    itself kind.Independent = label_same l
    itself kind.Constituent = label_same l

giveups_decide : (l : Label) (own : List Body) → Decides (are_giveups l own) (AreGiveUps l own)
giveups_decide l (body.GaveUp m n ∷ []) = label_decides m l
giveups_decide l (body.GaveUp m n ∷ body.GaveUp k i ∷ own) =
    three (same_label m l && (nat_lt n i && are_giveups l (body.GaveUp k i ∷ own)))
    (Decides-and (same_label m l) (nat_lt n i && are_giveups l (body.GaveUp k i ∷ own)) (label_decides m l)
    (Decides-and (nat_lt n i) (are_giveups l (body.GaveUp k i ∷ own)) (Decides-ltb n i) (giveups_decide l (body.GaveUp k i ∷ own))))
giveups_decide l own = (λ e. absurd (cc e), λ h. absurd h)

up_decides : (n inc : ℕ) (own : List Body) → Decides (is_up_above n inc own) ((i : ℕ) × (inc < i) × (own ≡ body.Up n i ∷ []))
up_decides n inc own = (to own, λ h. ap (is_up_above n inc) h.2 ∙ (λ i. number_same n i && (Decides-ltb inc h.0).1 h.1 i))
  where
    to : (own : List Body) → is_up_above n inc own ≡ true → (i : ℕ) × (inc < i) × (own ≡ body.Up n i ∷ [])
    to (body.Up m i ∷ []) is = let p = and_parts (m == n) (nat_lt inc i) is in
        (i, (Decides-ltb inc i).0 p.1, ap (λ k. body.Up k i ∷ []) (eqb-true m n p.0))
    to own is = absurd (cc is)

below_decides : (past : Past) (l p : Label) (k : Kind) (own : List Body) →
    Decides (begins_below past l p k own) (BeginsBelow past l p k own)
below_decides past l p k own = there_decides (λ n. is_one (body.Began l k (next_uid past.start past.lines n) (Some p)) own)
    (λ n. own ≡ body.Began l k (next_uid past.start past.lines n) (Some p) ∷ [])
    (λ n. began_decides l k (next_uid past.start past.lines n) (Some p) own) (node_of past.lines (name p))

begins_decide : (hd : Header) (past : Past) (e : Event) (own : List Body) → Decides (begins past e own) (Begins hd past e own)
begins_decide hd past (event.Begin l n) own = began_decides l kind.Top (next_uid past.start past.lines n) None own
begins_decide hd past (event.Serial l n) own = began_decides l kind.Serial (next_uid past.start past.lines n) None own
begins_decide hd past (event.BeginIn l p) own =
    below_decides past l p (if is_serializing past.lines (name p) then kind.Constituent else kind.Nested) own
begins_decide hd past (event.Top l p) own = below_decides past l p kind.Independent own
begins_decide hd past (event.Commit l) own = commit_decides past l (act_in (acts past.lines) (name l)) own
begins_decide hd past (event.Abort l) own = aborted_decides (aborted_of past.lines (act_in (acts past.lines) (name l))) own
begins_decide hd past (event.GiveUp l) own = giveups_decide l own
begins_decide hd past (event.Deliver k) own = let n = frame_no past.lines k in
    Decides-or (is_one (body.Got n) own) (is_one (body.Void n) own) (one_decides (body.Got n) (number_same n) own)
    (one_decides (body.Void n) (number_same n) own)
begins_decide hd past (event.Lose k) own = let n = frame_no past.lines k in one_decides (body.Dropped n) (number_same n) own
begins_decide hd past (event.Crash n) own = one_decides (body.Halted n) (number_same n) own
begins_decide hd past (event.Restart n) own =
    Decides-or (is_up_above n (incarnation past.start past.lines n) own) (is_one (body.Halted n) own)
    (up_decides n (incarnation past.start past.lines n) own) (one_decides (body.Halted n) (number_same n) own)
begins_decide hd past (event.Stop n calls k) own = one_decides (body.Armed n) (number_same n) own
begins_decide hd past (event.Junk n bytes) own = let k = last_frame past.lines + 1 in
    Decides-or (is_one (body.Sent k 0 n frame.Junk) own) (is_nil own)
    (one_decides (body.Sent k 0 n frame.Junk) (λ i. number_same k i && (true && number_same n i)) own) (nil_decides own)
begins_decide hd past (event.Call l x o) own = nil_decides own
begins_decide hd past (event.Include l x n) own = nil_decides own
begins_decide hd past (event.Tick n) own = nil_decides own
begins_decide hd past event.Settle own = nil_decides own
begins_decide hd past event.Quiesce own = nil_decides own
begins_decide hd past (event.Show x) own = nil_decides own

-- ---- how it ends

limit_decides : (last : List Body) → Decides (is_limit last) (IsFrameLimit last)
limit_decides last = (to last, λ e. ap is_limit e)
  where
    one : (b : Body) → is_frame_limit b ≡ true → b ∷ [] ≡ body.Limit which.Frames ∷ []
    one (body.Limit which.Frames) is = refl
    one b is = absurd (cc is)

    to : (last : List Body) → is_limit last ≡ true → IsFrameLimit last
    to [] is = absurd (cc is)
    to (b ∷ []) is = one b is
    to (b ∷ c ∷ rest) is = absurd (cc is)

may_decides : (last : List Body) → Decides (may_meet_limit last) (MayMeetLimit last)
may_decides last = Decides-or (is_nil last) (is_limit last) (nil_decides last) (limit_decides last)

quiet_decides : (last : List Body) → Decides (is_quiet last) ((b : Bool) × (last ≡ body.Quiet b ∷ []))
quiet_decides last = (to last, λ h. ap is_quiet h.1)
  where
    to : (last : List Body) → is_quiet last ≡ true → (b : Bool) × (last ≡ body.Quiet b ∷ [])
    to (body.Quiet b ∷ []) is = (b, refl)
    to last is = absurd (cc is)

ends_decide : (e : Event) (own last : List Body) → Decides (ends e own last) (Ends e own last)
ends_decide event.Quiesce own last = Decides-or (is_quiet last) (is_limit last) (quiet_decides last) (limit_decides last)
ends_decide (event.Junk n bytes) [] last = limit_decides last
ends_decide (event.Junk n bytes) (b ∷ own) last = nil_decides last
ends_decide (event.Call l x o) own last = may_decides last
ends_decide (event.Include l x n) own last = may_decides last
ends_decide (event.Commit l) own last = may_decides last
ends_decide (event.Abort l) own last = may_decides last
ends_decide (event.GiveUp l) own last = may_decides last
ends_decide (event.Deliver k) own last = may_decides last
ends_decide (event.Tick n) own last = may_decides last
ends_decide event.Settle own last = may_decides last
ends_decide (event.Restart n) own last = may_decides last
ends_decide (event.Begin l n) own last = nil_decides last
ends_decide (event.Serial l n) own last = nil_decides last
ends_decide (event.BeginIn l p) own last = nil_decides last
ends_decide (event.Top l p) own last = nil_decides last
ends_decide (event.Lose k) own last = nil_decides last
ends_decide (event.Crash n) own last = nil_decides last
ends_decide (event.Stop n calls k) own last = nil_decides last
ends_decide (event.Show x) own last = nil_decides last

-- ---- what stands between

call_decides : (x : ℕ) (o : Op) (e : Option Event) → Decides (holds_in (is_call_of x o) e) (IsCallOf x o e)
call_decides x o (Some (event.Call l y asked)) = Decides-and (y == x) (same_op asked o) (Decides-eqb y x) (op_decides asked o)
call_decides x o None = (λ e. absurd (cc e), λ h. absurd h)
call_decides x o (Some e) = (λ e. absurd (cc e), λ h. absurd h)

include_decides : (x n : ℕ) (e : Option Event) → Decides (holds_in (is_include_of x n) e) (IsIncludeOf x n e)
include_decides x n (Some (event.Include l y m)) = Decides-and (y == x) (m == n) (Decides-eqb y x) (Decides-eqb m n)
include_decides x n None = (λ e. absurd (cc e), λ h. absurd h)
include_decides x n (Some e) = (λ e. absurd (cc e), λ h. absurd h)

answer_decides : (st : Start) (accepted : List Asked) (lines : List Line) (b : Body) → Decides (answer_fits st accepted lines b)
    (AnswerFits st accepted lines b)
answer_decides st accepted lines (body.Ok l x o answer) = let e = waits_for accepted lines (name l) in
    Decides-and (holds_in (is_call_of x o) e) (answers o answer) (call_decides x o e) (answers_decide o answer)
answer_decides st accepted lines (body.Includes l x n) = include_decides x n (waits_for accepted lines (name l))
answer_decides st accepted lines (body.Conflict l h m n) = true_decides (is_some (waits_for accepted lines (name l)))
answer_decides st accepted lines (body.Lost l n) = true_decides (is_some (waits_for accepted lines (name l)))
answer_decides st accepted lines (body.Changed l n d) = true_decides (is_some (waits_for accepted lines (name l)))
answer_decides st accepted lines (body.Committed l) = true_decides (is_committing lines (name l))
answer_decides st accepted lines (body.Aborted l c) = true_decides (is_committing lines (name l))
answer_decides st accepted lines (body.Halted n) = false_decides (is_down st lines n)
answer_decides st accepted lines (body.Sent k from to what) = Decides-eqb k (last_frame lines + 1)
answer_decides st accepted lines (body.Got k) = true_decides (is_first k (open_frames lines))
answer_decides st accepted lines (body.Void k) = true_decides (is_first k (open_frames lines))
answer_decides st accepted lines b = (λ e. tt, λ h. refl)

fit_decide : (st : Start) (accepted : List Asked) (lines : List Line) (n : ℕ) (bs : List Body) →
    Decides (answers_fit st accepted lines n bs) (AnswersFit st accepted lines n bs)
fit_decide st accepted lines n [] = (λ e. tt, λ h. refl)
fit_decide st accepted lines n (b ∷ bs) =
    Decides-and (answer_fits st accepted lines b) (answers_fit st accepted (lines ++ block n (b ∷ [])) n bs)
    (answer_decides st accepted lines b) (fit_decide st accepted (lines ++ block n (b ∷ [])) n bs)

-- ---- events

module _ (hd : Header) (past : Past) (e : Event) where
  -- what an accepted event is, by its parts
  abbrev Goes : List Body → List Body → List Body → Type 0
  Goes own others last = Ends e own last × (list_all (may_stand e) others ≡ true) × (halts_fit past.lines e others ≡ true)
      × AnswersFit past.start (past.accepted ++ asked_of past e ∷ []) (past.lines ++ block (past.count + 1) own) (past.count + 1) others

  goes_decides : (own others last : List Body) → Decides (goes_on past e own others last) (Goes own others last)
  goes_decides own others last =
      let asked = past.accepted ++ asked_of past e ∷ [] in
      let lines = past.lines ++ block (past.count + 1) own in
      let fit = answers_fit past.start asked lines (past.count + 1) others in
      let d = Decides-and (ends e own last)
      (list_all (may_stand e) others && (halts_fit past.lines e others && fit)) (ends_decide e own last)
      (Decides-and (list_all (may_stand e) others) (halts_fit past.lines e others && fit) (true_decides (list_all (may_stand e) others))
      (Decides-and (halts_fit past.lines e others) fit (true_decides (halts_fit past.lines e others))
      (fit_decide past.start asked lines (past.count + 1) others))) in
      (λ is. let h = d.0 is in (h.0, h.1.0, h.1.1.0, h.1.1.1), λ h. d.1 (h.0, (h.1, (h.2, h.3))))

  abbrev Cuts : List Body → Type 0
  Cuts bodies = IsCut (λ own rest. Begins hd past e own × IsCut (Goes own) rest) bodies

  accepted_decides : (bodies : List Body) → Decides (is_accepted past e bodies) (Accepted hd past e bodies)
  accepted_decides bodies = Decides-like (is_accepted past e bodies) to from
      (cut_decides (λ own rest. begins past e own && some_cut (goes_on past e own) rest)
      (λ own rest. Begins hd past e own × IsCut (Goes own) rest)
      (λ own rest. Decides-and (begins past e own) (some_cut (goes_on past e own) rest) (begins_decide hd past e own)
      (cut_decides (goes_on past e own) (Goes own) (λ others last. goes_decides own others last) rest)) bodies)
    where
      to : Cuts bodies → Accepted hd past e bodies
      to c = let d = c.so.1 in record {
        own = c.front;
        others = d.front;
        last = d.back;
        parts = c.parts ∙ ap (λ rest. c.front ++ rest) d.parts;
        begins = c.so.0;
        ends = d.so.0;
        only = d.so.1;
        halts = d.so.2;
        answers = d.so.3;
      }

      from : Accepted hd past e bodies → Cuts bodies
      from a = record {
        front = a.own;
        back = a.others ++ a.last;
        parts = a.parts;
        so = (a.begins, record { front = a.others; back = a.last; parts = refl; so = (a.ends, a.only, a.halts, a.answers) });
      }

  refused_decides : (c : ℕ) (bodies : List Body) → Decides (is_one (body.Refused c) bodies) (bodies ≡ body.Refused c ∷ [])
  refused_decides c bodies = one_decides (body.Refused c) (number_same c) bodies

  run_decides : (bodies : List Body) (o : Option ℕ) → Decides (is_run past e bodies o) (MatchOption o (Accepted hd past e bodies)
      (λ c. bodies ≡ body.Refused c ∷ []))
  run_decides bodies None = accepted_decides bodies
  run_decides bodies (Some c) = refused_decides c bodies

  doomed_decides : (bodies : List Body) → Decides (is_refused_doomed hd past e bodies) (IsRefusedDoomed hd past e bodies)
  doomed_decides bodies =
      let lost = λ (l : List ℕ). is_doomed past.accepted past.lines l in
      let behind = is_behind_doom (refusal hd past e) in
      Decides-like (is_refused_doomed hd past e bodies)
      (λ h. record { label = h.0.0; about = h.0.1; lost = h.0.2; lowest = h.1.0; line = h.1.1 })
      (λ d. ((d.label, d.about, d.lost), (d.lowest, d.line)))
      (Decides-and (holds_in lost (label_doomed e)) (behind && is_one (body.Refused 12) bodies)
      (there_decides lost (λ l. lost l ≡ true) (λ l. true_decides (lost l)) (label_doomed e))
      (Decides-and behind (is_one (body.Refused 12) bodies) (true_decides behind) (refused_decides 12 bodies)))

  pub step_decides : (bodies : List Body) → Decides (is_step hd past e bodies) (Step hd past e bodies)
  step_decides bodies =
      let run = is_run past e bodies (refusal hd past e) in
      Decides-like (is_step hd past e bodies) (λ h. record { goes_on = h.0; lines = h.1 }) (λ s. (s.goes_on, s.lines))
      (Decides-and (not (is_limited past.lines)) (run || is_refused_doomed hd past e bodies) (false_decides (is_limited past.lines))
      (Decides-or run (is_refused_doomed hd past e bodies) (run_decides bodies (refusal hd past e)) (doomed_decides bodies)))

-- ---- journals

-- the numbers of these lines are above this
abbrev AreAbove : ℕ → List Line → Type 0
AreAbove n lines = AllByRecursion (λ (line : Line). n < line.event) lines

front_is : (n : ℕ) (bodies : List Body) (rest : List Line) → AreAbove n rest → front n (block n bodies ++ rest) ≡ bodies
front_is n [] [] above = refl
front_is n [] (line ∷ rest) above = ap (λ b. if b then line.body ∷ front n rest else []) (other n line.event above.0)
  where
    other : (n k : ℕ) → n < k → (k == n) ≡ false
    other n k less = grind (arith, nat_tests, less)
front_is n (b ∷ bodies) rest above =
    ap (λ t. if t then b ∷ front n (block n bodies ++ rest) else []) (number_same n) ∙ ap (λ bs. b ∷ bs) (front_is n bodies rest above)

back_is : (n : ℕ) (bodies : List Body) (rest : List Line) → AreAbove n rest → back n (block n bodies ++ rest) ≡ rest
back_is n [] [] above = refl
back_is n [] (line ∷ rest) above = ap (λ b. if b then back n rest else line ∷ rest) (other n line.event above.0)
  where
    other : (n k : ℕ) → n < k → (k == n) ≡ false
    other n k less = grind (arith, nat_tests, less)
back_is n (b ∷ bodies) rest above =
    ap (λ t. if t then back n (block n bodies ++ rest) else record { event = n; body = b } ∷ (block n bodies ++ rest)) (number_same n)
    ∙ back_is n bodies rest above

-- the lines are those with this number, and the others behind
cut_is : (n : ℕ) (lines : List Line) → lines ≡ block n (front n lines) ++ back n lines
cut_is n [] = refl
cut_is n (line ∷ lines) = by (line.event == n) refl (cut_is n lines)
  where
    by : (b : Bool) → (line.event == n) ≡ b → lines ≡ block n (front n lines) ++ back n lines →
        line ∷ lines ≡ block n (cond b (line.body ∷ front n lines) []) ++ cond b (back n lines) (line ∷ lines)
    by true is more = (λ i. record { event = eqb-true line.event n is i; body = line.body } ∷ lines)
        ∙ ap (λ rest. record { event = n; body = line.body } ∷ rest) more
    by false is more = refl

module _ (hd : Header) where
  -- the run goes on over these events, and its lines are those before and these
  abbrev GoesTo : Past → List Event → List Line → Type 0
  GoesTo past es lines = (end : Past) × Along (Step hd) past es end × (end.lines ≡ past.lines ++ lines)

  along_to : (past : Past) (es : List Event) (lines : List Line) → go_along hd past es lines ≡ true → GoesTo past es lines
  along_to past [] lines is = let none = (nil_decides lines).0 is in
      (past, refl, sym (ap (λ ls. past.lines ++ ls) none ∙ append-nil past.lines))
  along_to past (e ∷ es) lines is =
      let n = past.count + 1 in
      let bodies = front n lines in
      let p = and_parts (is_step hd past e bodies) (go_along hd (next past e bodies) es (back n lines)) is in
      let h = along_to (next past e bodies) es (back n lines) p.1 in (
        h.0,
        (bodies, (step_decides hd past e bodies).0 p.0, h.1),
        h.2 ∙ append_assoc past.lines (block n bodies) (back n lines) ∙ ap (λ ls. past.lines ++ ls) (sym (cut_is n lines)),
      )

  -- what the run adds, by the test
  record Adds (past : Past) (es : List Event) (end : Past) : Type 0 where
    lines : List Line
    are : end.lines ≡ past.lines ++ lines
    along : go_along hd past es lines ≡ true
    above : AreAbove past.count lines

  higher : (n : ℕ) (lines : List Line) → AreAbove (n + 1) lines → AreAbove n lines
  higher n [] above = tt
  higher n (line ∷ lines) above = (less n line.event above.0, higher n lines above.1)
    where
      less : (n k : ℕ) → n + 1 < k → n < k
      less n k is = omega (arith, is)

  block_above : (n : ℕ) (bodies : List Body) (rest : List Line) → AreAbove n rest → AreAbove n (block (n + 1) bodies ++ rest)
  block_above n [] rest above = above
  block_above n (b ∷ bodies) rest above = (omega arith, block_above n bodies rest above)

  along_from : (past : Past) (es : List Event) (end : Past) → Along (Step hd) past es end → Adds past es end
  along_from past [] end is = record {
    lines = [];
    are = ap (λ (p : Past). p.lines) (sym is) ∙ sym (append-nil past.lines);
    along = refl;
    above = tt;
  }
  along_from past (e ∷ es) end h =
      let n = past.count + 1 in
      let bodies = h.0 in
      let more = along_from (next past e bodies) es end h.2 in
      let its_front = front_is n bodies more.lines more.above in
      let its_back = back_is n bodies more.lines more.above in
      record {
        lines = block n bodies ++ more.lines;
        are = more.are ∙ append_assoc past.lines (block n bodies) more.lines;
        along = (λ i. is_step hd past e (its_front i) && go_along hd (next past e (its_front i)) es (its_back i))
            ∙ (λ i. (step_decides hd past e bodies).1 h.1 i && more.along i);
        above = block_above past.count bodies more.lines (higher past.count more.lines more.above);
      }

  along_decides : (past : Past) (es : List Event) (lines : List Line) → Decides (go_along hd past es lines) (GoesTo past es lines)
  along_decides past es lines = (
    along_to past es lines,
    λ h. let a = along_from past es h.0 h.1 in
        subst (λ ls. go_along hd past es ls ≡ true) (append_cancel_left past.lines a.lines lines (sym a.are ∙ h.2)) a.along,
  )

  ending_decides : (n : ℕ) (lines : List Line) → Decides (are_ending n lines) (AreEnding n lines)
  ending_decides n [] = (λ e. tt, λ h. refl)
  ending_decides n (line ∷ []) =
      Decides-and (line.event == n) (is_ending line.body) (Decides-eqb line.event n) (true_decides (is_ending line.body))
  ending_decides n (line ∷ other ∷ rest) = (λ e. absurd (cc e), λ h. absurd h)

  -- a run, and what stands behind its events
  abbrev Found : Start → List Event → List Line → Type 0
  Found st es lines = IsCut (λ run ending. AreEnding (length es) ending × GoesTo (at_start st) es run) lines

  -- The test says of each journal whether it follows its events.
  pub follows_decides : (st : Start) (es : List Event) (lines : List Line) → Decides (follows hd st es lines) (Follows hd st es lines)
  follows_decides st es lines = Decides-like (follows hd st es lines)
      (λ (c : Found st es lines). (c.so.1.0, c.back, c.so.1.1, c.parts ∙ ap (λ ls. ls ++ c.back) (sym c.so.1.2), c.so.0))
      (λ f. record { front = (let end = f.0 in end.lines); back = f.1; parts = f.3; so = (f.4, (f.0, f.2, refl)) })
      (cut_decides (λ run ending. are_ending (length es) ending && go_along hd (at_start st) es run)
      (λ run ending. AreEnding (length es) ending × GoesTo (at_start st) es run)
      (λ run ending. Decides-and (are_ending (length es) ending) (go_along hd (at_start st) es run) (ending_decides (length es) ending)
      (along_decides (at_start st) es run)) lines)
