-- An operation that the manager did is the protocol's, and a conflict changes nothing.
use Rattle.std.proofs.Common.{◌≡◌, ◌++◌, ◌↔◌, ℕ, List, [], ◌∷◌, Option, Some, None, cond, refl, ap, sym, ◌∙◌}
use Rattle.std.specs.Prelude.{Result, Ok, Err, OnOk, OnErr, IfOk, IfSome, IsErrOf, option_map}
use Rattle.std.specs.BTreeMap.{is_at}
use Rattle.std.specs.Cmp.{nat_cmp_total}
use Rattle.std.specs.List.Sorted.{IsStrictlySortedBy}
use Rattle.std.specs.Map.{keys_of}
use Rattle.std.specs.Ordering.{nat_cmp, is_eq, match_ordering}
use Rattle.std.specs.declared.alloc.AllocError.{AllocError}
use Rattle.std.specs.declared.cmp.Ordering.{Ordering}
use Rattle.std.specs.declared.cmp.Ordering.TheVariants.{Less, Equal, Greater}
use Rattle.std.proofs.lemmas.Map.{lookup-none}
use Rattle.std.proofs.lemmas.Map.Entries.{none_below_head}
use Rattle.std.proofs.lemmas.Map.Keys.{sorted_tail}
use Rattle.arj_base.specs.Path.{uids_of}
use Rattle.arj_base.specs.Rows.{Row, first_conflict, last_uid}
use Rattle.arj_base.specs.Uid.{object}
use Rattle.arj_base.specs.declared.mode.Mode.{Mode}
use Rattle.arj_base.specs.declared.path.Path.{Path}
use Rattle.arj_base.specs.declared.uid.Uid.{Uid}
use Rattle.arj_class.specs.Table.{op_mode}
use Rattle.arj_class.specs.declared.op.Op.{Op}
use Rattle.arj_journal.specs.declared.body.Line.{Line}
use Rattle.arj_manager.specs.Manager.{Copies, invoke_at, invoke_in}
use Rattle.arj_manager.specs.Ran.{grant_said}
use Rattle.arj_manager.specs.declared.fault.ManagerFault.{ManagerFault}
use Rattle.arj_manager.specs.declared.fault.ManagerFault.TheVariants as fault
use Rattle.arj_manager.specs.declared.ran.Ran.{Ran}
use Rattle.arj_msg.specs.declared.message.Invoke.{Invoke}
use Rattle.arj_msg.specs.declared.message.InvokedReply.{InvokedReply}
use Rattle.arj_msg.specs.declared.message.InvokedReply.TheVariants as invoked
use Rattle.arj_protocol.specs.Copy.{Copy, ask_copy, invoke_copy}
use Rattle.arj_protocol.specs.Order.{at_number, put_number}
use Rattle.arj_protocol.specs.Server.{Server, on_copy}
use Rattle.arj_server.specs.Calls.{ran}
use Rattle.arj_server.specs.Lines.{said}
use Rattle.arj_server.specs.Outcome.{lines_of, reply_of}

-- ---- the call on the server, by the call on its copies

pub ran_part : (n : ℕ) (m : Invoke) (s : Server) →
    record s { objects = (invoke_in n m.head.path m.x m.op s.objects).part } ≡ (ran n m s).part
ran_part n m s = by (at_number m.x s.objects)
  where
    by : (found : Option Copy) →
        record s {
          objects =
              (invoke_at n m.head.path m.x m.op s.objects found).part;
        } ≡ (on_copy m.x (invoke_copy n m.head.path m.x m.op) s found).part
    by None = refl
    by (Some c) = refl

ran_outs : (n : ℕ) (m : Invoke) (s : Server) → (invoke_in n m.head.path m.x m.op s.objects).outs ≡ (ran n m s).outs
ran_outs n m s = by (at_number m.x s.objects)
  where
    by : (found : Option Copy) →
        (invoke_at n m.head.path m.x m.op s.objects found).outs ≡ (on_copy m.x (invoke_copy n m.head.path m.x m.op) s found).outs
    by None = refl
    by (Some c) = refl

ran_reply : (n : ℕ) (m : Invoke) (s : Server) (a : InvokedReply) → (invoke_in n m.head.path m.x m.op s.objects).reply ≡ Some a →
    (ran n m s).reply ≡ Some a
ran_reply n m s a is = by (at_number m.x s.objects) is
  where
    by : (found : Option Copy) → (invoke_at n m.head.path m.x m.op s.objects found).reply ≡ Some a →
        (on_copy m.x (invoke_copy n m.head.path m.x m.op) s found).reply ≡ Some a
    by None is = absurd (cc is)
    by (Some c) is = is

-- ---- a conflict

put_same : (x : ℕ) (c : Copy) (m : Copies) → IsStrictlySortedBy nat_cmp (keys_of m) → at_number x m ≡ Some c → put_number x c m ≡ m
put_same x c [] sorted at = absurd (cc at)
put_same x c (e ∷ m) sorted at = by (nat_cmp x e.0) refl at (put_same x c m (sorted_tail nat_cmp e.0 (keys_of m) sorted))
  where
    by : (r : Ordering) → nat_cmp x e.0 ≡ r → cond (is_eq r) (Some e.1) (at_number x m) ≡ Some c →
        (at_number x m ≡ Some c → put_number x c m ≡ m)
        → match_ordering r ((x, c) ∷ e ∷ m) ((e.0, c) ∷ m) (e ∷ put_number x c m) ≡ e ∷ m
    by Less is here ih =
        let none : at_number x (e ∷ m) ≡ None =
        lookup-none (is_at (nat_cmp x)) (e ∷ m) (none_below_head nat_cmp_total x e m sorted is) in absurd (cc (sym none ∙ at))
    by Equal is here ih = let same : e.1 ≡ c = cc here in λ i. (e.0, sym same i) ∷ m
    by Greater is here ih = ap (λ rest. e ∷ rest) (ih here)

-- a call that is answered by a conflict leaves all as it was, and says nothing
pub met_nothing : (n : ℕ) (p : Path) (x : ℕ) (op : Op) (m : Copies) (holder : Uid) (held : Mode) → IsStrictlySortedBy nat_cmp (keys_of m)
    → (invoke_in n p x op m).reply ≡ Some (invoked.Conflict holder held) →
    ((invoke_in n p x op m).part ≡ m) × ((invoke_in n p x op m).outs ≡ [])
met_nothing n p x op m holder held sorted is = by (at_number x m) refl is
  where
    met : (c : Copy) → at_number x m ≡ Some c → (r : Option Row) → (ask_copy n p x op c r).reply ≡ Some (invoked.Conflict holder held)
        → (put_number x (ask_copy n p x op c r).part m ≡ m) × ((ask_copy n p x op c r).outs ≡ [])
    met c at None is = absurd (cc is)
    met c at (Some r) is = (put_same x c m sorted at, refl)

    by : (found : Option Copy) → at_number x m ≡ found → (invoke_at n p x op m found).reply ≡ Some (invoked.Conflict holder held)
        → ((invoke_at n p x op m found).part ≡ m) × ((invoke_at n p x op m found).outs ≡ [])
    by None at is = (refl, refl)
    by (Some c) at is = met c at (first_conflict (uids_of p) (object x) (op_mode op) c.rows) is

-- ---- what the manager did

abbrev Named : ℕ → Invoke → Server → Result (Option Ran) ManagerFault → Type 0
Named n m s done =
    (holder : Uid) (held : Mode) → IsErrOf done (fault.Conflict holder held) → (k : ℕ) →
    (invoke_in k m.head.path m.x m.op s.objects).reply ≡ Some (invoked.Conflict holder held)

pub run_part : (n : ℕ) (m : Invoke) (s : Server) (new : Copies) (done : Result (Option Ran) ManagerFault) (r : Result InvokedReply AllocError) → IsStrictlySortedBy nat_cmp (keys_of s.objects)
    → OnOk done ((k : ℕ) → new ≡ (invoke_in k m.head.path m.x m.op s.objects).part) → Named n m s done → OnErr done (new ≡ s.objects)
    → IfOk r (λ a. reply_of done ≡ Some a) → OnOk r (record s { objects = new } ≡ (ran n m s).part)
run_part n m s new done (Err e) sorted ok named err reply = tt
run_part n m s new (Ok d) (Ok a) sorted ok named err reply = ap (λ os. record s { objects = os }) (ok n) ∙ ran_part n m s
run_part n m s new (Err (fault.Conflict holder held)) (Ok a) sorted ok named err reply =
    ap (λ os. record s {
      objects =
          os;
    }) (err ∙ sym (met_nothing n m.head.path m.x m.op s.objects holder held sorted (named holder held refl n)).0) ∙ ran_part n m s
run_part n m s new (Err fault.WrongOp) (Ok a) sorted ok named err reply = absurd (cc reply)
run_part n m s new (Err fault.Payload) (Ok a) sorted ok named err reply = absurd (cc reply)
run_part n m s new (Err fault.Memory) (Ok a) sorted ok named err reply = absurd (cc reply)

abbrev Said : ℕ → Invoke → Server → Result (Option Ran) ManagerFault → Type 0
Said n m s done =
    IfOk done (λ d. IfSome d (λ ran. (k : ℕ) →
    (invoke_in k m.head.path m.x m.op s.objects).outs ≡ grant_said k (last_uid (uids_of m.head.path)) (object m.x) ran.granted))

run_outs : (n : ℕ) (m : Invoke) (s : Server) (done : Result (Option Ran) ManagerFault) (a : InvokedReply) →
    IsStrictlySortedBy nat_cmp (keys_of s.objects)
    → Said n m s done → ((done ≡ Ok None) ↔ (at_number m.x s.objects ≡ None)) → Named n m s done → reply_of done ≡ Some a →
    lines_of n m done ≡ (ran n m s).outs
run_outs n m s (Ok (Some d)) a sorted lines absent named reply = sym (lines n) ∙ ran_outs n m s
run_outs n m s (Ok None) a sorted lines absent named reply = rw (absent.0 refl) refl
run_outs n m s (Err (fault.Conflict holder held)) a sorted lines absent named reply =
    sym (met_nothing n m.head.path m.x m.op s.objects holder held sorted (named holder held refl n)).1 ∙ ran_outs n m s
run_outs n m s (Err fault.WrongOp) a sorted lines absent named reply = absurd (cc reply)
run_outs n m s (Err fault.Payload) a sorted lines absent named reply = absurd (cc reply)
run_outs n m s (Err fault.Memory) a sorted lines absent named reply = absurd (cc reply)

pub run_lines : (n : ℕ) (m : Invoke) (s : Server) (done : Result (Option Ran) ManagerFault) (r : Result InvokedReply AllocError) (old new : List Line) → IsStrictlySortedBy nat_cmp (keys_of s.objects)
    → Said n m s done → ((done ≡ Ok None) ↔ (at_number m.x s.objects ≡ None)) → Named n m s done
    → IfOk r (λ a. reply_of done ≡ Some a) → OnOk r (new ≡ old ++ said (lines_of n m done)) → OnOk r (new ≡ old ++ said (ran n m s).outs)
run_lines n m s done (Err e) old new sorted lines absent named reply is = tt
run_lines n m s done (Ok a) old new sorted lines absent named reply is =
    is ∙ ap (λ es. old ++ said es) (run_outs n m s done a sorted lines absent named reply)

abbrev Replied : ℕ → Invoke → Server → Result (Option Ran) ManagerFault → Type 0
Replied n m s done =
    IfOk done (λ d. (k : ℕ) → (invoke_in k m.head.path m.x m.op s.objects).reply ≡ option_map (λ ran. invoked.Answered ran.answer) d)

reply_is : (n : ℕ) (m : Invoke) (s : Server) (done : Result (Option Ran) ManagerFault) (a : InvokedReply)
    → Replied n m s done → ((done ≡ Ok None) ↔ (at_number m.x s.objects ≡ None)) → Named n m s done → reply_of done ≡ Some a →
    (ran n m s).reply ≡ Some a
reply_is n m s (Ok (Some d)) a replied absent named is = ran_reply n m s a (replied n ∙ is)
reply_is n m s (Ok None) a replied absent named is = rw (absent.0 refl) is
reply_is n m s (Err (fault.Conflict holder held)) a replied absent named is = ran_reply n m s a (named holder held refl n ∙ is)
reply_is n m s (Err fault.WrongOp) a replied absent named is = absurd (cc is)
reply_is n m s (Err fault.Payload) a replied absent named is = absurd (cc is)
reply_is n m s (Err fault.Memory) a replied absent named is = absurd (cc is)

pub run_reply : (n : ℕ) (m : Invoke) (s : Server) (done : Result (Option Ran) ManagerFault) (r : Result InvokedReply AllocError)
    → Replied n m s done → ((done ≡ Ok None) ↔ (at_number m.x s.objects ≡ None)) → Named n m s done
    → IfOk r (λ a. reply_of done ≡ Some a) → IfOk r (λ a. (ran n m s).reply ≡ Some a)
run_reply n m s done (Err e) replied absent named reply = tt
run_reply n m s done (Ok a) replied absent named reply = reply_is n m s done a replied absent named reply
