-- A call that was lost at a node that it had sent an Invoke, as it stands in the journal: its action is doomed by it, and stays so.
use Rattle.arj_law_parts.proofs.Words
use Words.{◌≡◌, ◌≤◌, ◌∙◌, ◌+◌, ◌&&◌, ◌++◌, ℕ, suc, Bool, true, false, cond, if◌then◌else◌, List, [], ◌∷◌, filter, length, take, refl, sym}
use Words.{ap, subst, arith}
use Words.{nat_tests, nat_le, inl, inr, Option, Some, None, append-nil, append_assoc, filter-append, list_any, length-append, bytes_eq}
use Words.{name, Body, Event, In, Label, Line, Uid, is_serial}
use Words.body
use Words.frame
use Rattle.std.specs.Prelude.{drop}
use Rattle.arj_law_runs.proofs.Terms.{Act, acts, act_in}
use Rattle.arj_law_runs.proofs.journal.{Models.in_later, Owners.acts_more}
use Rattle.arj_model.specs.Actions.{Placed, acts_after, put, read}
use Rattle.arj_model.specs.CauseSpans.{had_invoked, holds_in, is_call, is_doomed, is_frame, lost_by}
use Rattle.arj_model.specs.Past.{Asked as AskedOf, Past, asked_of, block, is_refused, next}
use Rattle.arj_model.specs.Refusals.{asks_by, holds_of, is_ask_by, last_asked}
use Rattle.arj_law_cause.proofs.waits.waiting.Lists.{any_in}

-- ---- what is read of lines

in_put : {A : Type 0} (n : ℕ) (o : Option A) (xs : List (Placed A)) (x : Placed A) → In x xs → In x (put n o xs)
in_put n None xs x i = i
in_put n (Some a) xs x i = inr i

in_read : {A : Type 0} (f : List Act → Body →
    Option A) (us : List Act) (n : ℕ) (before : List Line) (line : Line) (after : List Line) (a : A) →
    ((vs : List Act) → f vs line.body ≡ Some a) →
    In (record { at = n + length before; it = a }) (read f us n (before ++ line ∷ after))
in_read {A} f us n [] line after a its =
    subst (λ o. In (record { at = n + 0; it = a }) (put n o (read f (acts_after us line.body) (n + 1) after))) (sym (its us))
    (inl (ap (λ j. record { at = j; it = a }) (none n)))
  where
    none : (j : ℕ) → j ≡ j + 0
    none j = omega arith
in_read {A} f us n (l ∷ ls) line after a its =
    in_put n (f us l.body) (read f (acts_after us l.body) (n + 1) (ls ++ line ∷ after)) (record { at = n + length (l ∷ ls); it = a })
    (subst (λ j. In (record { at = j; it = a }) (read f (acts_after us l.body) (n + 1) (ls ++ line ∷ after))) (one n (length ls))
    (in_read f (acts_after us l.body) (n + 1) ls line after a its))
  where
    one : (j m : ℕ) → j + 1 + m ≡ j + suc m
    one j m = omega arith

taken_before : {A : Type 0} (xs ys : List A) → take (length xs) (xs ++ ys) ≡ xs
taken_before [] [] = refl
taken_before [] (y ∷ ys) = refl
taken_before (x ∷ xs) ys = ap (λ zs. x ∷ zs) (taken_before xs ys)

-- ---- what was lost

-- a line that a call of the action was lost, which had sent an Invoke from this node in its span
pub record IsLostSo (acc : List AskedOf) (ls : List Line) (l : List ℕ) (home : ℕ) : Type 0 where
  pub before : List Line
  pub line : Line
  pub after : List Line
  pub label : Label
  pub node : ℕ
  pub asked : AskedOf
  pub are : ls ≡ before ++ line ∷ after
  pub says : line.body ≡ body.Lost label node
  pub its : bytes_eq (name label) l ≡ true
  pub last : last_asked (filter (λ (k : AskedOf). nat_le k.at (length before)) (asks_by acc l)) ≡ Some asked
  pub call : is_call asked.event ≡ true
  pub frame : list_any (λ (x : Line). is_frame home node (frame.Invoke ∷ []) x.body) (drop asked.at before) ≡ true

lost_more : (acc : List AskedOf) (ls more : List Line) (l : List ℕ) (home : ℕ) → IsLostSo acc ls l home → IsLostSo acc (ls ++ more) l home
lost_more acc ls more l home x = record {
  before = x.before;
  line = x.line;
  after = x.after ++ more;
  label = x.label;
  node = x.node;
  asked = x.asked;
  are = ap (λ xs. xs ++ more) x.are ∙ append_assoc x.before (x.line ∷ x.after) more;
  says = x.says;
  its = x.its;
  last = x.last;
  call = x.call;
  frame = x.frame;
}

-- what is asked later changes nothing of it
lost_asked : (acc : List AskedOf) (ls : List Line) (l : List ℕ) (home : ℕ) (a : AskedOf) → length ls ≤ a.at → IsLostSo acc ls l home →
    IsLostSo (acc ++ a ∷ []) ls l home
lost_asked acc ls l home a late x = record {
  before = x.before;
  line = x.line;
  after = x.after;
  label = x.label;
  node = x.node;
  asked = x.asked;
  are = x.are;
  says = x.says;
  its = x.its;
  last = ap (λ ks. last_asked (filter (λ (k : AskedOf). nat_le k.at (length x.before)) ks))
      (filter-append (λ (k : AskedOf). is_ask_by l k.event) acc (a ∷ []))
      ∙ ap last_asked (filter-append (λ (k : AskedOf). nat_le k.at (length x.before)) (asks_by acc l)
      (cond (is_ask_by l a.event) (a ∷ []) []))
      ∙ ap (λ ks. last_asked (filter (λ (k : AskedOf). nat_le k.at (length x.before)) (asks_by acc l) ++ ks)) (none (is_ask_by l a.event))
      ∙ ap last_asked (append-nil (filter (λ (k : AskedOf). nat_le k.at (length x.before)) (asks_by acc l))) ∙ x.last;
  call = x.call;
  frame = x.frame;
}
  where
    long : (m n b c : ℕ) → m ≡ b + suc c → m ≤ n → nat_le n b ≡ false
    long m n b c is low = grind (arith, nat_tests, is, low)

    behind : nat_le a.at (length x.before) ≡ false
    behind = long (length ls) a.at (length x.before) (length x.after)
        (ap (λ (xs : List Line). length xs) x.are ∙ length-append x.before (x.line ∷ x.after)) late

    none : (b : Bool) → filter (λ (k : AskedOf). nat_le k.at (length x.before)) (cond b (a ∷ []) []) ≡ []
    none true = λ i. cond (behind i) (a ∷ []) []
    none false = refl

-- the action with this label is doomed by it
pub lost_is : (acc : List AskedOf) (ls : List Line) (a : Act) → act_in (acts ls) a.label ≡ Some a →
    IsLostSo acc ls a.label (let u = a.uid in u.node) → is_doomed acc ls a.label ≡ true
lost_is acc ls a named x =
    ap (holds_of (λ b. list_any (its_test (let u = b.uid in u.node)) (read (lost_by a.label) [] 0 ls))) named
    ∙ any_in (its_test (let u = a.uid in u.node)) (read (lost_by a.label) [] 0 ls) here there holds
  where
    its_test : ℕ → Placed ℕ → Bool
    its_test home lost = holds_in (had_invoked ls home lost)
        (last_asked (filter (λ (k : AskedOf). nat_le k.at lost.at) (asks_by acc a.label)))

    here : Placed ℕ
    here = record { at = 0 + length x.before; it = x.node }

    there : In (record { at = 0 + length x.before; it = x.node }) (read (lost_by a.label) [] 0 ls)
    there = subst (λ zs. In (record { at = 0 + length x.before; it = x.node }) (read (lost_by a.label) [] 0 zs)) (sym x.are)
        (in_read (lost_by a.label) [] 0 x.before x.line x.after x.node
        (λ vs. ap (lost_by a.label vs) x.says ∙ (λ i. if x.its i then Some x.node else None)))

    zero_more : (n : ℕ) → 0 + n ≡ n
    zero_more n = omega arith

    taken : take (0 + length x.before) ls ≡ x.before
    taken = (λ i. take (zero_more (length x.before) i) (x.are i)) ∙ taken_before x.before (x.line ∷ x.after)

    holds : its_test (let u = a.uid in u.node) (record { at = 0 + length x.before; it = x.node }) ≡ true
    holds =
        ap (holds_in (had_invoked ls (let u = a.uid in u.node) (record { at = 0 + length x.before; it = x.node })))
        ((λ i. last_asked (filter (λ (k : AskedOf). nat_le k.at (zero_more (length x.before) i)) (asks_by acc a.label))) ∙ x.last)
        ∙ (λ i. is_call (let k = x.asked in k.event) && list_any
        (λ (z : Line). is_frame (let u = a.uid in u.node) x.node (frame.Invoke ∷ []) z.body)
        (drop (let k = x.asked in k.at) (taken i)))
        ∙ (λ i. x.call i && x.frame i)

-- ---- actions

-- an action of the journal that is doomed
pub record IsDoomedSo (acc : List AskedOf) (ls : List Line) (u : Uid) : Type 0 where
  pub act : Act
  pub began : In act (acts ls)
  pub uid : act.uid ≡ u
  pub plain : is_serial act.kind ≡ false
  pub lost : IsLostSo acc ls act.label (let w = act.uid in w.node)

pub began_more : (ls more : List Line) (a : Act) → In a (acts ls) → In a (acts (ls ++ more))
began_more ls more a i = subst (In a) (sym (acts_more [] ls more)) (in_later more (acts ls) a i)

-- it stays so
pub doomed_next : (p : Past) (e : Event) (bodies : List Body) (u : Uid) → IsDoomedSo p.accepted p.lines u →
    IsDoomedSo (next p e bodies).accepted (next p e bodies).lines u
doomed_next p e bodies u d = record {
  act = d.act;
  began = began_more p.lines (block (p.count + 1) bodies) d.act d.began;
  uid = d.uid;
  plain = d.plain;
  lost = lost_more (next p e bodies).accepted p.lines (block (p.count + 1) bodies) (let a = d.act in a.label)
      (let a = d.act in let w = a.uid in w.node)
      (by (is_refused bodies));
}
  where
    by : (b : Bool) → IsLostSo (if b then p.accepted else p.accepted ++ asked_of p e ∷ []) p.lines (let a = d.act in a.label)
        (let a = d.act in let w = a.uid in w.node)
    by true = d.lost
    by false = lost_asked p.accepted p.lines (let a = d.act in a.label) (let a = d.act in let w = a.uid in w.node) (asked_of p e)
        (omega arith) d.lost
