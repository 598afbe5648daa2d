-- Values of copies are in form, so what a server votes restores, and what it answers is in form: where operations are, and older states restore.
-- Whether these restore or not, payloads are bytes, and versions have 64 bits.
use Rattle.arj_law_parts.proofs.Words
use Words.{◌≡◌, ◌∙◌, ◌+◌, ◌-◌, ◌==◌, ◌≤◌, ℕ, List, [], ◌∷◌, Bool, true, false, cond, if◌then◌else◌, length, nat_lt, Option, Some}
use Words.{None, option_map, IfSome, refl, sym, subst, arith, ⊤, AllByRecursion, cons_option, filter_map, either, Answer, Binding, End, Head}
use Words.{InvokedReply, ObjectState, Op, Path, Row, Uid, Value, VotedReply, What, actor, answer_of, ValueInForm, PairsFit}
use Words.{value_back, value_in, state_value, Class, Copy, Over, ask_copy, changed_state, current, over_of, state_over, is_full_for}
use Words.{Served, void, Server, activate, apply_ends, first_unbound, has_ended, invoke, next_version, other_inc, told, vote, vote_now}
use Words.class
use Words.invoked
use Words.value
use Words.voted
use Rattle.arj_class.specs.declared.limits.TheConstants.{REGISTER_BYTES}
use Rattle.arj_class.specs.declared.op.Answer.TheVariants as answer
use Rattle.arj_class.specs.declared.op.Op.TheVariants as op
use Rattle.arj_class.specs.Forms.{NumbersFit}
use Rattle.arj_class.specs.Table.{front_of, number_or_nothing, value_at}
use Rattle.arj_law_serial.proofs.Terms.{OpTextInForm}
use Rattle.arj_law_serial.proofs.joint.FormCopies as copies
use Rattle.arj_law_serial.proofs.joint.FormCopies.{KeepCopies, ServerIs}
use Rattle.arj_law_serial.proofs.joint.{GivenBytes.SaysBytes, GivenBytes.after_bytes, GivenBytes.payload_bytes, GivenBytes.two_holds}
use Rattle.arj_law_serial.proofs.joint.GivenForms.{after_in_form}
use Rattle.arj_law_serial.specs.joint.Forms.{HasValues}
use Rattle.arj_msg.specs.InForm.{IsLong}
use Rattle.arj_msg.specs.Sendable.{StateSends}
use Rattle.arj_text.specs.Fields.{AreBytes, AreBytesUpTo, NumberInForm}

-- ---- what is so

-- a value is in form, where this holds
abbrev pub IsValue : Type 0 → Value → Type 0
IsValue A v = (A → ValueInForm v) × SaysBytes v

-- a state's payload are bytes, and its version has 64 bits
abbrev pub IsWritten : ObjectState → Type 0
IsWritten st = AreBytes st.payload × IsLong st.version

-- so it is of a state, which restores where this holds
abbrev pub IsMade : Type 0 → ObjectState → Type 0
IsMade A st = (A → StateSends st) × IsWritten st

-- an operation answers a number of 64 bits, or the bytes of a register
abbrev pub AnswerSays : Answer → Type 0
AnswerSays (answer.Number n) = NumberInForm n
AnswerSays (answer.Text bytes) = AreBytesUpTo REGISTER_BYTES bytes
AnswerSays a = ⊤

-- so it does, where this holds
abbrev pub InvokedSays : Type 0 → InvokedReply → Type 0
InvokedSays A (invoked.Answered a) = A → AnswerSays a
InvokedSays A r = ⊤

-- ---- bytes

in_bytes : (k : Class) (bytes : List ℕ) → AreBytes bytes → SaysBytes (value_in k bytes)
in_bytes class.Entry bytes all = tt
in_bytes class.Counter bytes all = tt
in_bytes class.Register bytes all = all
in_bytes class.Account bytes all = tt
in_bytes class.Queue bytes all = tt
in_bytes class.Table bytes all = tt
in_bytes class.Gone bytes all = tt

-- ---- answers

if_says : (b : Bool) (x y : Answer) → AnswerSays x → AnswerSays y → AnswerSays (cond b x y)
if_says true x y a b = a
if_says false x y a b = b

at_fits : (k : ℕ) (ps : List (ℕ × ℕ)) → PairsFit ps → AnswerSays (number_or_nothing (value_at k ps))
at_fits k [] fits = tt
at_fits k (p ∷ ps) fits = by (p.0 == k) (at_fits k ps fits.2)
  where
    by : (b : Bool) → AnswerSays (number_or_nothing (value_at k ps)) → AnswerSays (number_or_nothing (if b then Some p.1 else value_at k ps))
    by true ih = fits.1
    by false ih = ih

front_fits : (ns : List ℕ) → NumbersFit ns → AnswerSays (front_of ns)
front_fits [] fits = tt
front_fits (n ∷ ns) fits = fits.0

-- an operation answers so at a value in form
answer_says : (o : Op) (v : Value) → ValueInForm v → SaysBytes v → AnswerSays (answer_of o v)
answer_says op.Get (value.Counter m) form its = form
answer_says op.Get (value.Register bytes) form its = (form, its)
answer_says op.Get (value.Account m) form its = form
answer_says (op.Set n) (value.Counter m) form its = tt
answer_says (op.Put new) (value.Register bytes) form its = tt
answer_says op.Len (value.Queue ns) form its = few (length ns) form.0
  where
    few : (n : ℕ) → n ≤ 32 → NumberInForm n
    few n less = omega (arith, less)
answer_says (op.Create w) (value.Gone c) form its = tt
answer_says op.Destroy (value.Gone c) form its = tt
answer_says (op.Add n) (value.Counter m) form its = if_says (nat_lt (m + n) 18446744073709551616) answer.Done answer.Over tt tt
answer_says (op.Deposit n) (value.Account m) form its = if_says (nat_lt (m + n) 18446744073709551616) answer.Done answer.Over tt tt
answer_says (op.Withdraw n) (value.Account m) form its = if_says (nat_lt m n) answer.Short answer.Done tt tt
answer_says (op.Push n) (value.Queue ns) form its = if_says (nat_lt (length ns) 32) answer.Done answer.Full tt tt
answer_says op.Pop (value.Queue ns) form its = front_fits ns form.1
answer_says (op.GetKey k) (value.Table ps) form its = at_fits k ps form.2
answer_says (op.PutPair k x) (value.Table ps) form its = if_says (is_full_for k ps) answer.Full answer.Done tt tt
answer_says (op.Remove k) (value.Table ps) form its = at_fits k ps form.2
answer_says o v form its = tt

-- ---- copies

module _ (A : Type 0) where
  -- a copy's values are in form
  abbrev pub IsSaved : ℕ → Copy → Type 0
  IsSaved x c = HasValues (IsValue A) c

  keep : KeepCopies IsSaved (InvokedSays A) OpTextInForm (IsMade A)
  keep = record {
    ends = λ u e x c so. copies.ended_so (IsValue A) u e c so;
    asks = λ n p x o c r fits so. (
      copies.asked_so (IsValue A) n p x o c r (λ v form. ((λ yes. after_in_form o v fits (form.0 yes)), after_bytes o v fits form.1)) so,
      answers n p x o c so r,
    );
    takes = λ b st its. record {
      base = ((λ yes. let z = its.0 yes in subst ValueInForm (same st z) z.2), in_bytes st.class st.payload its.1.0);
      over = tt;
    };
    changed = λ w. tt;
  }
    where
      answers : (n : ℕ) (p : Path) (x : ℕ) (o : Op) (c : Copy) → IsSaved x c → (r : Option Row) →
          IfSome (ask_copy n p x o c r).reply (InvokedSays A)
      answers n p x o c so None = λ yes. let v = copies.current_so (IsValue A) c so in
          answer_says o (current c.base c.stack) (v.0 yes) v.1
      answers n p x o c so (Some r) = tt

      -- a state that restores says its value
      same : (st : ObjectState) (its : StateSends st) → its.0 ≡ state_value st
      same st its = sym (value_back its.0 its.2) ∙ (λ i. value_in (its.1 i) (its.4 i))

  -- ---- a server

  -- values of its copies are in form, and so are its answers
  abbrev pub ServerSaves : Server → Type 0
  ServerSaves s = ServerIs IsSaved (InvokedSays A) s

  pub activate_so : (n : ℕ) (p : Path) (b : Binding) (st : ObjectState) (s : Server) → IsMade A st → ServerSaves s →
      ServerSaves (activate n p b st s).part
  activate_so n p b st s its all = copies.activate_so IsSaved (InvokedSays A) OpTextInForm (IsMade A) keep n p b st s its all

  pub told_so : (n : ℕ) (es : List (Uid × End)) (s : Server) → ServerSaves s → ServerSaves (told n es s).part
  told_so n es s all = copies.told_so IsSaved (InvokedSays A) OpTextInForm (IsMade A) keep n es s all

  pub invoke_so : (n : ℕ) (h : Head) (x : ℕ) (b : Binding) (i : ℕ) (ends : List (Uid × End)) (o : Op) (s : Server) → OpTextInForm o →
      ServerSaves s → copies.Answers IsSaved (InvokedSays A) (invoke n h x b i ends o s)
  invoke_so n h x b i ends o s fits all =
      copies.invoke_so IsSaved (InvokedSays A) OpTextInForm (IsMade A) keep n h x b i ends o s fits all

  -- ---- votes

  made_so : (top : Uid) (x : ℕ) (c : Copy) → IsSaved x c → IfSome (changed_state top x c) (IsMade A)
  made_so top x c so = by (over_of top c.stack) (copies.over_so (IsValue A) top c.stack so.over)
    where
      least : (v : ℕ) → IsLong (next_version v)
      least v = omega arith

      by : (o : Option Over) → IfSome o (λ (e : Over). IsValue A e.value) → IfSome (option_map (state_over top x c) o) (IsMade A)
      by None its = tt
      by (Some o) its = (
        (λ yes. (o.value, refl, its.0 yes, two_holds o.value (its.0 yes), refl)),
        (payload_bytes o.value its.1, least (let b = c.base in b.version)),
      )

  -- what is voted is so
  abbrev pub Restored : VotedReply → Type 0
  Restored (voted.Yes states) = AllByRecursion (IsMade A) states
  Restored (voted.Changed w) = ⊤

  pub vote_so : (n : ℕ) (p : Path) (i : ℕ) (ties : List (ℕ × Binding)) (ends : List (Uid × End)) (s : Server) → ServerSaves s →
      ServerSaves (vote n p i ties ends s).part × IfSome (vote n p i ties ends s).reply Restored
  vote_so n p i ties ends s all = copies.vote_so IsSaved (InvokedSays A) OpTextInForm (IsMade A) keep (IsMade A) Restored made_so
      (λ states its. its) (λ w. tt) n p i ties ends s all

-- and it is by the top that asked
abbrev pub IsByTop : Uid → VotedReply → Type 0
IsByTop top (voted.Yes states) = AllByRecursion (λ (st : ObjectState). st.writer ≡ top) states
IsByTop top (voted.Changed w) = ⊤

pub vote_by : (n : ℕ) (p : Path) (i : ℕ) (ties : List (ℕ × Binding)) (ends : List (Uid × End)) (s : Server) →
    IfSome (vote n p i ties ends s).reply (IsByTop (actor p))
vote_by n p i ties ends s = by (has_ended p s)
  where
    each : (es : List (ℕ × Copy)) →
        AllByRecursion (λ (st : ObjectState). st.writer ≡ actor p) (filter_map (λ (e : ℕ × Copy). changed_state (actor p) e.0 e.1) es)
    each [] = tt
    each (e ∷ es) = one (over_of (actor p) (let c = e.1 in c.stack)) (each es)
      where
        one : (o : Option Over) →
            AllByRecursion (λ (st : ObjectState). st.writer ≡ actor p) (filter_map (λ (f : ℕ × Copy). changed_state (actor p) f.0 f.1) es) →
            AllByRecursion (λ (st : ObjectState). st.writer ≡ actor p) (cons_option (option_map (state_over (actor p) e.0 e.1) o)
            (filter_map (λ (f : ℕ × Copy). changed_state (actor p) f.0 f.1) es))
        one None ih = ih
        one (Some o) ih = (refl, ih)

    now : (w : Option What) → IfSome (vote_now n (actor p) ends s w).reply (IsByTop (actor p))
    now (Some w) = tt
    now None = each (let d = apply_ends n ends s in let z = d.part in z.objects)

    by : (b : Bool) → IfSome (let r = cond {A = Served Server VotedReply} b (void s)
        (vote_now n (actor p) ends s (either (other_inc i s.inc) (first_unbound ties s))) in r.reply) (IsByTop (actor p))
    by true = tt
    by false = now (either (other_inc i s.inc) (first_unbound ties s))
