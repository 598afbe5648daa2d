-- What naming does at a Confirm, and what it finds at a restart.
use Rattle.std.specs.Prelude.{ℕ, Bool, true, false, not, ◌&&◌, ◌||◌, ◌==◌, if◌then◌else◌, List, [], ◌∷◌, ◌++◌, map, filter, find, Option}
use Rattle.std.specs.Prelude.{Some, None, is_some, option_map}
use Rattle.std.specs.List.{flat_map, filter_map, list_any, list_all}
use Rattle.arj_protocol.specs.Words.{Uid, Path, Entry, ObjectState, Row, ConfirmedReply, Mode, uid_eq, entry, entry_payload, is_on}
use Rattle.arj_protocol.specs.Words.{is_listed, with_store, without_store, last_uid, nobody}
use Rattle.arj_protocol.specs.Words.mode
use Rattle.arj_protocol.specs.Words.class
use Rattle.arj_protocol.specs.Words.format
use Rattle.arj_protocol.specs.Words.body
use Rattle.arj_protocol.specs.Words.role
use Rattle.arj_protocol.specs.Words.what
use Rattle.arj_protocol.specs.Words.confirmed
use Rattle.arj_protocol.specs.Order.{at_number, put_number, with_uid, next_version}
use Rattle.arj_protocol.specs.Effect.{Effect, Say, Do, Look, Prepare, Served, Did, Pair, Prep, Ready, Already, Old, InDoubt, held_at}
use Rattle.arj_protocol.specs.Effect.{is_prepared, void, reply, either, prepare_answer}
use Rattle.arj_protocol.specs.Values.{state_entry}
use Rattle.arj_protocol.specs.Ask.{top_of}
use Rattle.arj_protocol.specs.Copy.{row_for}
use Rattle.arj_protocol.specs.Named.{Named, unnamed, conflict_on, locked, lock_lines}
use Rattle.arj_protocol.specs.Naming.{Naming, listed_entry, is_over}

-- a list of objects, each with the naming incarnation of its grant
abbrev pub Grants : Type 0
Grants = List (ℕ × ℕ)

-- a list of objects, each with a store
abbrev pub Marks : Type 0
Marks = List (ℕ × ℕ)

-- the stores that are marked for an object
abbrev pub marked : ℕ → Marks → List ℕ
marked x marks = map (λ (m : ℕ × ℕ). m.1) (filter (λ (m : ℕ × ℕ). m.0 == x) marks)

-- ---- the new entries

-- the list without these stores
abbrev pub without_stores : List ℕ → List ℕ → List ℕ
without_stores [] stores = stores
without_stores (s ∷ ss) stores = without_stores ss (without_store s stores)

-- the list with these stores behind it, each once
abbrev pub with_stores : List ℕ → List ℕ → List ℕ
with_stores [] stores = stores
with_stores (s ∷ ss) stores = with_stores ss (with_store s stores)

-- the exclusions go, and the inclusions come last
abbrev pub stores_after : ℕ → Marks → Marks → Entry → List ℕ
stores_after x excluded included e = with_stores (marked x included) (without_stores (marked x excluded) e.stores)

-- the same nodes in the same order
abbrev pub same_nodes : List ℕ → List ℕ → Bool
same_nodes [] [] = true
same_nodes (m ∷ ms) (n ∷ ns) = (m == n) && same_nodes ms ns
same_nodes _ _ = false

-- the new entry of an object: one version above the old one, written by the top, with these stores, in the format in which states are written
abbrev pub entry_state : ℕ → Uid → ObjectState → List ℕ → ObjectState
entry_state x top s stores =
    record {
      uid = entry x;
      class = class.Entry;
      version = next_version s.version;
      writer = top;
      payload =
          entry_payload (record { servers = (state_entry s).servers; stores = stores });
      format = format.Two;
    }

-- the new entry of an object, where it differs
abbrev pub entry_by : ℕ → Uid → ObjectState → List ℕ → Option ObjectState
entry_by x top s stores = if same_nodes stores (state_entry s).stores then None else Some (entry_state x top s stores)

-- the new entry of an object that has one, where it differs
abbrev pub entry_after : Uid → Marks → Marks → ℕ → Option ObjectState → Option ObjectState
entry_after top excluded included x None = None
entry_after top excluded included x (Some s) = entry_by x top s (stores_after x excluded included (state_entry s))

-- the entries that change, by object
abbrev pub entries_after : Uid → Grants → Marks → Marks → Pair → List ObjectState
entries_after top grants excluded included d =
    filter_map (λ (g : ℕ × ℕ). entry_after top excluded included g.0 (held_at (entry g.0) d)) grants

-- ---- the four checks

-- a grant of another incarnation than naming's refuses the Confirm
abbrev pub other_grant : Naming → ℕ × ℕ → Option ConfirmedReply
other_grant n g = if g.1 == n.inc then None else Some (confirmed.Changed (what.Inc g.1 n.inc))

-- another action has prepared an entry of the object that lists the store
abbrev pub is_prepared_with : ℕ → Uid → ℕ → Pair → Bool
is_prepared_with x top s d =
    list_any (λ (p : Uid × List ObjectState). not (uid_eq p.0 top) && list_any (λ st. uid_eq st.uid (entry x) && is_listed s (state_entry st).stores) p.1) d.pend

-- the exclusion wants the exclude lock
abbrev pub is_wanted : ℕ → Uid → Pair → ℕ → Bool
is_wanted x top d s = is_listed s (listed_entry x d).stores || is_prepared_with x top s d

-- some exclusion of the object wants the exclude lock
abbrev pub wants_lock : Uid → Marks → Pair → ℕ → Bool
wants_lock top excluded d x = list_any (is_wanted x top d) (marked x excluded)

-- the objects whose exclude lock is wanted
abbrev pub wanted : Uid → Grants → Marks → Pair → List ℕ
wanted top grants excluded d = filter (wants_lock top excluded d) (map (λ (g : ℕ × ℕ). g.0) grants)

-- the first row that conflicts with the exclude lock on an entry that is there
abbrev pub conflict_in : ℕ → Path → Option Named → Option Row
conflict_in x p None = None
conflict_in x p (Some o) = conflict_on x p mode.Exclude o

-- an exclude lock that can't be granted refuses the Confirm
abbrev pub refused_exclude : Path → Naming → ℕ → Option ConfirmedReply
refused_exclude p n x = option_map (λ r. confirmed.Conflict (last_uid r.holder) r.mode) (conflict_in x p (at_number x n.objects))

-- an included store that is listed already refuses it
abbrev pub is_there : Pair → ℕ × ℕ → Option ConfirmedReply
is_there d m = if is_listed m.1 (listed_entry m.0 d).stores then Some (confirmed.Listed m.0 m.1) else None

-- an entry without stores is refused, with its object's number
abbrev pub is_bare : ObjectState → Option ConfirmedReply
is_bare s = if same_nodes (state_entry s).stores [] then Some (confirmed.NoStores s.uid.num) else None

-- the first that a test refuses
abbrev pub first_of_each : {A : Type 0} → (A → Option ConfirmedReply) → List A → Option ConfirmedReply
first_of_each f [] = None
first_of_each f (a ∷ as_left) = either (f a) (first_of_each f as_left)

-- Each grant is of the present incarnation; each exclude lock can be granted; no included store is listed; no entry is left
-- without a store. The first that fails is the answer.
abbrev pub checked : Path → Grants → Marks → Marks → Pair → Naming → Option ConfirmedReply
checked p grants excluded included d n =
    either (first_of_each (other_grant n) grants)
    (either (first_of_each (refused_exclude p n) (wanted (top_of p) grants excluded d))
    (either (first_of_each (is_there d) included)
    (first_of_each is_bare (entries_after (top_of p) grants excluded included d))))

-- ---- after the checks

-- the exclude lock on an entry that is there is granted, with its lines
abbrev pub lock_in : ℕ → Path → Naming → Option Named → Did Naming
lock_in x p n None = record { part = n; outs = [] }
lock_in x p n (Some o) =
    record { part = record n { objects = put_number x (locked x p mode.Exclude o) n.objects }; outs = lock_lines x p mode.Exclude o }

-- the exclude locks, one after another
abbrev pub lock_all : List ℕ → Path → Naming → Did Naming
lock_all [] p n = record { part = n; outs = [] }
lock_all (x ∷ xs) p n =
    let d = lock_in x p n (at_number x n.objects) in
    let t = lock_all xs p d.part in
    record { part = t.part; outs = d.outs ++ t.outs }

-- the top is confirmed in this incarnation
abbrev pub confirms : Uid → Naming → Naming
confirms top n = record n { confirmed = with_uid top n.confirmed }

-- The store's answer to the new entries. Another one than Ready doesn't come; it is answered as a conflict.
abbrev pub prepared_by : Uid → List ObjectState → Did Naming → Prep → Served Naming ConfirmedReply
prepared_by top states t Ready = record {
  part = confirms top t.part;
  outs = t.outs ++ Do Look ∷ Do (Prepare role.Names top states) ∷ Say (body.Prepared 1 top role.Names) ∷ [];
  reply = Some confirmed.Yes;
}
prepared_by top states t (InDoubt u holder) =
    record { part = t.part; outs = t.outs ++ Do Look ∷ []; reply = Some (confirmed.Conflict holder mode.Write) }
prepared_by top states t (Already u) =
    record { part = t.part; outs = t.outs ++ Do Look ∷ []; reply = Some (confirmed.Conflict top mode.Write) }
prepared_by top states t (Old u v) =
    record { part = t.part; outs = t.outs ++ Do Look ∷ []; reply = Some (confirmed.Conflict nobody mode.Write) }

-- where no entry changes nothing is prepared
abbrev pub confirm_entries : Uid → List ObjectState → Pair → Did Naming → Served Naming ConfirmedReply
confirm_entries top [] d t = record { part = confirms top t.part; outs = t.outs; reply = Some confirmed.Yes }
confirm_entries top (s ∷ ss) d t = prepared_by top (s ∷ ss) t (prepare_answer top (s ∷ ss) d)

-- a Confirm that is new: refused by the first check that fails, or its locks are granted and its entries prepared
abbrev pub confirm_new : Path → Grants → Marks → Marks → Pair → Naming → Option ConfirmedReply → Served Naming ConfirmedReply
confirm_new p grants excluded included d n (Some r) = reply n r
confirm_new p grants excluded included d n None =
    confirm_entries (top_of p) (entries_after (top_of p) grants excluded included d) d (lock_all (wanted (top_of p) grants excluded d) p n)

-- naming has each of these objects
abbrev pub has_all : Grants → Naming → Bool
has_all grants n = list_all (λ (g : ℕ × ℕ). is_some (at_number g.0 n.objects)) grants

-- What was answered Yes in this incarnation, and what is prepared, is answered Yes again, and nothing else is checked.
abbrev pub confirm : Path → Grants → Marks → Marks → Pair → Naming → Served Naming ConfirmedReply
confirm p grants excluded included d n =
    if is_over p n || not (has_all grants n) then void n
    else (if is_on n.confirmed (top_of p) || is_prepared (top_of p) d then reply (confirms (top_of p) n) confirmed.Yes
    else confirm_new p grants excluded included d n (checked p grants excluded included d n))

-- ---- restart

-- a store of the new entry that the committed one lacks
abbrev pub adds_store : List ℕ → List ℕ → Bool
adds_store new old = list_any (λ s. not (is_listed s old)) new

-- the mode of the lock that an entry which is found prepared gives back
abbrev pub mode_back : List ℕ → List ℕ → Mode
mode_back new old = if adds_store new old then mode.Write else mode.Exclude

-- the prepared state of an entry with its action
abbrev pub pending_of : Uid → List (Uid × List ObjectState) → Option (Uid × ObjectState)
pending_of u [] = None
pending_of u (p ∷ ps) = either (option_map (λ s. (p.0, s)) (find (λ s. uid_eq s.uid u) p.1)) (pending_of u ps)

-- the row that a prepared entry gives back: it has its action alone as its path
abbrev pub rows_back : Uid → ObjectState → Option (Uid × ObjectState) → List Row
rows_back u held None = []
rows_back u held (Some p) = row_for u (p.0 ∷ []) 1 (mode_back (state_entry p.1).stores (state_entry held).stores) ∷ []

-- an entry after a restart: nobody is bound, and who has it prepared holds its lock
abbrev pub named_back : Pair → Uid × ObjectState → ℕ × Named
named_back d e = (e.0.num, unnamed (rows_back e.0 e.1 (pending_of e.0 d.pend)))

-- the lines of the locks that are given back
abbrev pub back_lines : Named → List Effect
back_lines o = map (λ r. Say (body.Granted 1 (last_uid r.holder) r.object r.mode)) o.rows

-- the naming part of this incarnation, from what the disk says, with the lines of the locks that it gives back
abbrev pub recovered_naming : ℕ → Pair → Naming
recovered_naming inc d =
    record {
      inc = inc;
      count = 0;
      objects = map (named_back d) d.held;
      confirmed = map (λ (p : Uid × List ObjectState). p.0) d.pend;
      told =
          [];
    }

-- these lines, object by object
abbrev pub recovered_lines : Naming → List Effect
recovered_lines n = flat_map (λ (e : ℕ × Named). back_lines e.1) n.objects
