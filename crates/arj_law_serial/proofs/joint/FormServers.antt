-- What a server does with copies: the object's stays of its class, also while it is gone, and the states that it votes are of it.
use Rattle.arj_law_parts.proofs.Words
use Words.{◌≡◌, ℕ, List, [], ◌∷◌, true, Option, Some, None, refl, ◌∙◌, ap, ⊤, IfSome, option_map, AllByRecursion, object}
use Words.{Binding, End, Head, InvokedReply, ObjectState, Op, Path, Uid, Value, VotedReply, class_of, own_class, value_back, payload_of}
use Words.{Reply}
use Words.{Copy, Over, ask_copy, changed_state, over_of, Kept, Server, activate, invoke, told, vote, value_in}
use Words.value
use Rattle.arj_law_serial.proofs.Terms.{Own, ReplyIsSo, CopyIsSo, Kind, so_of, stored}
use Rattle.arj_base.specs.State.{is_object_class}
use Rattle.arj_class.proofs.Keeping.{class_kept}
use Rattle.arj_law_serial.proofs.joint.FormCopies as copies
use Rattle.arj_law_serial.proofs.joint.FormCopies.{KeepCopies, ServerIs}
use Rattle.arj_protocol.specs.Copy.{state_over}

module _ (k : Kind) where
  abbrev Q : ObjectState → Type 0
  Q st = Own (stored k) st

  abbrev V : Value → Type 0
  V v = own_class v ≡ k.class

  abbrev C : ℕ → Copy → Type 0
  C = CopyIsSo k.x k.class

  -- whatever is asked and answered
  abbrev Any : InvokedReply → Type 0
  Any r = ⊤

  abbrev AnyOp : Op → Type 0
  AnyOp o = ⊤

  keep : KeepCopies C Any AnyOp Q
  keep = record {
    ends = λ u e x c so same. copies.ended_so V u e c (so same);
    asks = λ n p x o c r fits so. (
      λ same. copies.asked_so V n p x o c r (λ v is. class_kept o v ∙ is) (so same),
      given (ask_copy n p x o c r).reply,
    );
    takes = λ b st its same. record { base = its.1 (its.0 ∙ ap object same); over = tt };
    changed = λ w. tt;
  }
    where
      given : (o : Option InvokedReply) → IfSome o Any
      given None = tt
      given (Some r) = tt

  abbrev All : Server → Type 0
  All s = AllByRecursion (λ (e : ℕ × Copy). C e.0 e.1) s.objects

  with_kept : (s : Server) → All s → ServerIs C Any s
  with_kept s all = (all, each s.kept)
    where
      each : (es : List (Uid × Kept)) → AllByRecursion (λ (e : Uid × Kept). Any (let q = e.1 in q.answer)) es
      each [] = tt
      each (e ∷ es) = (tt, each es)

  pub activate_so : (n : ℕ) (p : Path) (b : Binding) (st : ObjectState) (s : Server) → Q st → All s →
      All (activate n p b st s).part
  activate_so n p b st s its all = let a = copies.activate_so C Any AnyOp Q keep n p b st s its (with_kept s all) in a.0

  pub told_so : (n : ℕ) (es : List (Uid × End)) (s : Server) → All s → All (told n es s).part
  told_so n es s all = let a = copies.told_so C Any AnyOp Q keep n es s (with_kept s all) in a.0

  pub invoke_so : (n : ℕ) (h : Head) (x : ℕ) (b : Binding) (i : ℕ) (ends : List (Uid × End)) (o : Op) (s : Server) → All s →
      All (invoke n h x b i ends o s).part
  invoke_so n h x b i ends o s all = let a = copies.invoke_so C Any AnyOp Q keep n h x b i ends o s tt (with_kept s all) in (a.0).0

  -- ---- votes

  module _ (real : is_object_class k.class ≡ true) where
    -- the state of a value of the class is of it
    pub read_so : (v : Value) → own_class v ≡ k.class → own_class (value_in (class_of v) (payload_of v)) ≡ k.class
    read_so (value.Gone c) is = ap own_class (value_back (value.Gone c) (ap is_object_class is ∙ real)) ∙ is
    read_so (value.Counter n) is = is
    read_so (value.Register bytes) is = is
    read_so (value.Account n) is = is
    read_so (value.Queue ns) is = is
    read_so (value.Table ps) is = is

    made_so : (top : Uid) (x : ℕ) (c : Copy) → C x c → IfSome (changed_state top x c) Q
    made_so top x c so = by (over_of top c.stack) (λ same. copies.over_so V top c.stack (so same).over)
      where
        by : (o : Option Over) → (x ≡ k.x → IfSome o (λ (e : Over). V e.value)) → IfSome (option_map (state_over top x c) o) Q
        by None its = tt
        by (Some o) its = (refl, λ same. read_so o.value (its (ap (λ (u : Uid). u.num) same)))

    abbrev IsVoted : VotedReply → Type 0
    IsVoted v = ReplyIsSo (so_of k) (Reply.Voted v)

    pub vote_so : (n : ℕ) (p : Path) (i : ℕ) (ties : List (ℕ × Binding)) (ends : List (Uid × End)) (s : Server) → All s →
        All (vote n p i ties ends s).part × IfSome (vote n p i ties ends s).reply IsVoted
    vote_so n p i ties ends s all =
        let v = copies.vote_so C Any AnyOp Q keep Q IsVoted made_so (λ states all. all) (λ w. tt) n p i ties ends s (with_kept s all) in
        ((v.0).0, v.1)
