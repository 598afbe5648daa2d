-- What ends, acknowledgements, questions and greetings leave: what is prepared, what is told again, and what is under way.
use Rattle.arj_law_parts.proofs.Words
use Words.{◌≡◌, ◌≢◌, ◌∙◌, ℕ, Bool, true, false, List, [], ◌∷◌, ◌++◌, refl, sym, ap, subst, inl, inr, Option, Some, None, ◌&&◌, not, is_some}
use Words.{if◌then◌else◌, and_parts, AllByRecursion, flat_map, End, Message, Uid, asks, is_on, answers, Abort, Commit, Disk, Do, Effect}
use Words.{Look, Pair, Prepare, PutInc, PutIntent, RemoveIntent, Say, Send, Work, did_nothing, is_prepared, worked, Naming, end_entries}
use Words.{end_lines, end_orphans, orphans, own_entries, taken_end, ack_told, end_states, naming_told, store_told, at_uid, without_uid}
use Words.{Server, is_told}
use Words.list as members
use Words.ending
use Words.body
use Words.part
use Words.role
use Words.naming
use Words.server
use Rattle.arj_law_runs.proofs.Terms.{without_cases}
use Rattle.arj_law_parts.proofs.parts.Keys.{sorted_without, without_same}
use Rattle.arj_law_parts.specs.parts.Objects.{AreSorted}
use Rattle.arj_law_runs.proofs.resting.Effects.{works}

-- ---- works that end what is prepared

-- the message neither asks nor answers
abbrev pub is_plain : Message → Bool
is_plain m = not (is_some (asks m)) && not (is_some (answers m))

-- the effect prepares nothing and keeps no record, and sends no request and no answer
abbrev pub ends_prepared : Effect → Bool
ends_prepared (Do (Commit r u)) = true
ends_prepared (Do (Abort r u)) = true
ends_prepared (Do (RemoveIntent u)) = true
ends_prepared (Do w) = false
ends_prepared (Send to m) = is_plain m
ends_prepared (Say b) = true

abbrev pub OnlyEnd : List Effect → Type 0
OnlyEnd es = AllByRecursion (λ e. ends_prepared e ≡ true) es

pub works_on : (es fs : List Effect) (d : Disk) → works (es ++ fs) d ≡ works fs (works es d)
works_on [] fs d = refl
works_on (Do w ∷ es) fs d = works_on es fs (worked w d)
works_on (Say b ∷ es) fs d = works_on es fs d
works_on (Send to m ∷ es) fs d = works_on es fs d

pub only_on : (es fs : List Effect) → OnlyEnd es → OnlyEnd fs → OnlyEnd (es ++ fs)
only_on [] fs a b = b
only_on (e ∷ es) fs a b = (a.0, only_on es fs a.1 b)

none_there : {A : Type 0} (o : Option A) → not (is_some o) ≡ true → o ≡ None
none_there None is = refl
none_there (Some a) is = absurd (cc is)

-- what is sent neither asks nor answers
pub sent_plain : (es : List Effect) (to : ℕ) (m : Message) → OnlyEnd es → members.In (Send to m) es → (asks m ≡ None) × (answers m ≡ None)
sent_plain [] to m only i = absurd i
sent_plain (e ∷ es) to m only (inl is) =
    let both = and_parts (not (is_some (asks m))) (not (is_some (answers m))) (ap ends_prepared (sym is) ∙ only.0) in
    (none_there (asks m) both.0, none_there (answers m) both.1)
sent_plain (e ∷ es) to m only (inr i) = sent_plain es to m only.1 i

-- what stands after one is taken out stood before, and isn't that one
without_less : {X : Type 0} (u w : Uid) (m : List (Uid × X)) → AreSorted m → is_some (at_uid u (without_uid w m)) ≡ true →
    (u ≢ w) × (is_some (at_uid u m) ≡ true)
without_less {X} u w m sorted is = by (at_uid u (without_uid w m)) refl is
  where
    by : (o : Option X) → at_uid u (without_uid w m) ≡ o → is_some o ≡ true → (u ≢ w) × (is_some (at_uid u m) ≡ true)
    by None none is = absurd (cc is)
    by (Some x) found is = let c = without_cases u w x m sorted found in (c.0, ap (λ o. is_some o) c.1)

-- what is prepared in both pairs stands in order
pub record AreInOrder (d : Disk) : Type 0 where
  pub store : AreSorted d.store.pend
  pub names : AreSorted d.names.pend

-- fewer are prepared, in order
pub record Fewer (d c : Disk) : Type 0 where
  pub order : AreInOrder c
  pub store : (u : Uid) → is_prepared u c.store ≡ true → is_prepared u d.store ≡ true
  pub names : (u : Uid) → is_prepared u c.names ≡ true → is_prepared u d.names ≡ true

same_fewer : (d : Disk) → AreInOrder d → Fewer d d
same_fewer d o = record { order = o; store = λ u is. is; names = λ u is. is }

then_fewer : (d c b : Disk) → Fewer d c → Fewer c b → Fewer d b
then_fewer d c b f g = record { order = g.order; store = λ u is. f.store u (g.store u is); names = λ u is. f.names u (g.names u is) }

-- an end takes its own
end_fewer : (w : Work) (d : Disk) → ends_prepared (Do w) ≡ true → AreInOrder d → Fewer d (worked w d)
end_fewer (Commit role.Store a) d is o = record {
  order = record { store = sorted_without a d.store.pend o.store; names = o.names };
  store = λ u p. (without_less u a d.store.pend o.store p).1;
  names = λ u p. p;
}
end_fewer (Commit role.Names a) d is o = record {
  order = record { store = o.store; names = sorted_without a d.names.pend o.names };
  store = λ u p. p;
  names = λ u p. (without_less u a d.names.pend o.names p).1;
}
end_fewer (Abort role.Store a) d is o = record {
  order = record { store = sorted_without a d.store.pend o.store; names = o.names };
  store = λ u p. (without_less u a d.store.pend o.store p).1;
  names = λ u p. p;
}
end_fewer (Abort role.Names a) d is o = record {
  order = record { store = o.store; names = sorted_without a d.names.pend o.names };
  store = λ u p. p;
  names = λ u p. (without_less u a d.names.pend o.names p).1;
}
end_fewer (PutInc i) d is o = absurd (cc is)
end_fewer (Prepare r u s) d is o = absurd (cc is)
end_fewer (PutIntent u i) d is o = absurd (cc is)
end_fewer (RemoveIntent u) d is o = record { order = record { store = o.store; names = o.names }; store = λ v p. p; names = λ v p. p }
end_fewer Look d is o = absurd (cc is)

pub ends_fewer : (es : List Effect) (d : Disk) → OnlyEnd es → AreInOrder d → Fewer d (works es d)
ends_fewer [] d only o = same_fewer d o
ends_fewer (Say b ∷ es) d only o = ends_fewer es d only.1 o
ends_fewer (Send to m ∷ es) d only o = ends_fewer es d only.1 o
ends_fewer (Do w ∷ es) d only o = let f = end_fewer w d only.0 o in
    then_fewer d (worked w d) (works es (worked w d)) f (ends_fewer es (worked w d) only.1 f.order)

-- ---- an end that is told

-- the store's own
pub store_ends : (n : ℕ) (u : Uid) (e : End) (d : Pair) → OnlyEnd (store_told n u e d)
store_ends n u e d = by (is_prepared u d) e
  where
    by : (b : Bool) (e : End) → OnlyEnd (if b then end_states n u e else [])
    by true ending.Commit = (refl, (refl, tt))
    by true ending.Abort = (refl, (refl, tt))
    by false e = tt

-- behind them the action isn't prepared in the store
store_over : (n : ℕ) (u : Uid) (e : End) (d : Disk) → AreInOrder d → is_prepared u (works (store_told n u e d.store) d).store ≡ false
store_over n u e d o = by (is_prepared u d.store) refl e
  where
    by : (b : Bool) → is_prepared u d.store ≡ b → (e : End) → is_prepared u (works (if b then end_states n u e else []) d).store ≡ false
    by true is ending.Commit = ap (λ o. is_some o) (without_same u d.store.pend o.store)
    by true is ending.Abort = ap (λ o. is_some o) (without_same u d.store.pend o.store)
    by false is e = is

entries_end : (u : Uid) (e : End) → OnlyEnd (end_entries u e)
entries_end u ending.Commit = (refl, (refl, tt))
entries_end u ending.Abort = (refl, (refl, tt))

own_end : (u : Uid) (e : End) (d : Pair) → OnlyEnd (own_entries u e d)
own_end u e d = by (is_prepared u d)
  where
    by : (b : Bool) → OnlyEnd (if b then end_entries u e else [])
    by true = entries_end u e
    by false = tt

own_over : (u : Uid) (e : End) (pair : Pair) (d : Disk) → AreInOrder d → (is_prepared u d.names ≡ true → is_prepared u pair ≡ true) →
    is_prepared u (works (own_entries u e pair) d).names ≡ false
own_over u e pair d o there = by (is_prepared u pair) refl e
  where
    not_there : (b : Bool) → is_prepared u d.names ≡ b → is_prepared u pair ≡ false → b ≡ false
    not_there true is fails = absurd (cc (sym (there is) ∙ fails))
    not_there false is fails = refl

    by : (b : Bool) → is_prepared u pair ≡ b → (e : End) → is_prepared u (works (if b then end_entries u e else []) d).names ≡ false
    by true is ending.Commit = ap (λ o. is_some o) (without_same u d.names.pend o.names)
    by true is ending.Abort = ap (λ o. is_some o) (without_same u d.names.pend o.names)
    by false is e = not_there (is_prepared u d.names) refl is

orphans_end : (us : List Uid) → OnlyEnd (flat_map (λ act. end_entries act ending.Abort) us)
orphans_end [] = tt
orphans_end (u ∷ us) =
    only_on (end_entries u ending.Abort) (flat_map (λ act. end_entries act ending.Abort) us) (entries_end u ending.Abort) (orphans_end us)

lines_end : (u : Uid) (e : End) (n : Naming) → OnlyEnd (end_lines u e n)
lines_end u e n = by (naming.has_locks u n)
  where
    by : (b : Bool) → OnlyEnd (if b then Say (body.Told 1 u e part.Naming) ∷ [] else [])
    by true = (refl, tt)
    by false = tt

new_end : (u : Uid) (e : End) (d : Pair) (n : Naming) → OnlyEnd (naming.told_new u e d n).outs
new_end u ending.Commit d n = lines_end u ending.Commit n
new_end u ending.Abort d n =
    only_on (end_orphans u ending.Abort d n) (end_lines u ending.Abort n) (orphans_end (orphans u d n)) (lines_end u ending.Abort n)

rest_end : (u : Uid) (e : End) (d : Pair) (n : Naming) (b : Bool) →
    OnlyEnd (if b then did_nothing n else naming.told_new u (taken_end u e n) d n).outs
rest_end u e d n true = tt
rest_end u e d n false = new_end u (taken_end u e n) d n

pub naming_ends : (u : Uid) (e : End) (d : Pair) (o : Option Naming) → OnlyEnd (naming_told u e d o).outs
naming_ends u e d None = tt
naming_ends u e d (Some n) = only_on (own_entries u e d) (if is_on n.told u then did_nothing n else naming.told_new u (taken_end u e n) d
    n).outs (own_end u e d) (rest_end u e d n (is_on n.told u))

pub server_ends : (n : ℕ) (ends : List (Uid × End)) (s : Server) → OnlyEnd (server.told n ends s).outs
server_ends n [] s = tt
server_ends n (e ∷ es) s = let d = server.end_one n e.0 e.1 s in
    only_on d.outs (server.apply_ends n es d.part).outs (one (is_told e.0 s)) (server_ends n es d.part)
  where
    lines : (u : Uid) (f : End) (b : Bool) → OnlyEnd (if b then Say (body.Told n u f part.Server) ∷ [] else [])
    lines u f true = (refl, tt)
    lines u f false = tt

    one : (b : Bool) → OnlyEnd (if b then did_nothing s else server.end_new n e.0 (server.taken_end e.0 e.1 s) s).outs
    one true = tt
    one false = lines e.0 (server.taken_end e.0 e.1 s) (server.has_locks e.0 s)

pub ack_ends : (from : ℕ) (u : Uid) (b : Bool) → OnlyEnd (ack_told from u b)
ack_ends from u true = (refl, tt)
ack_ends from u false = tt

-- Behind an end that was told fewer are prepared, and not that action, where naming is at this node if entries are prepared here.
pub record HasTold (u : Uid) (d c : Disk) : Type 0 where
  pub fewer : Fewer d c
  pub store : is_prepared u c.store ≡ false
  pub names : is_prepared u c.names ≡ false

pub told_leaves : (n : ℕ) (u : Uid) (e : End) (d : Disk) (o : Option Naming) (rest : List Effect) → AreInOrder d → (is_prepared u d.names
    ≡ true → is_some o ≡ true) → OnlyEnd rest → HasTold u d (works (store_told n u e d.store ++ (naming_told u e d.names o).outs ++ rest) d)
told_leaves n u e d o rest order home only = subst (HasTold u d) (sym (works_on (store_told n u e d.store ++ (naming_told u e d.names
    o).outs) rest d ∙ ap (works rest) (works_on (store_told n u e d.store) (naming_told u e d.names o).outs d))) (record {
      fewer = then_fewer d a c one (then_fewer a b c two three);
      store = not_more (is_prepared u b.store) (is_prepared u c.store) (λ is. three.store u is)
          (not_more (is_prepared u a.store) (is_prepared u b.store) (λ is. two.store u is) (store_over n u e d order));
      names = not_more (is_prepared u b.names) (is_prepared u c.names) (λ is. three.names u is) (over o home);
    })
  where
    a : Disk
    a = works (store_told n u e d.store) d

    b : Disk
    b = works (naming_told u e d.names o).outs a

    c : Disk
    c = works rest b

    one : Fewer d a
    one = ends_fewer (store_told n u e d.store) d (store_ends n u e d.store) order

    two : Fewer a b
    two = ends_fewer (naming_told u e d.names o).outs a (naming_ends u e d.names o) one.order

    three : Fewer b c
    three = ends_fewer rest b only two.order

    not_more : (x y : Bool) → (y ≡ true → x ≡ true) → x ≡ false → y ≡ false
    not_more x true up is = absurd (cc (sym (up refl) ∙ is))
    not_more x false up is = refl

    over : (o : Option Naming) → (is_prepared u d.names ≡ true → is_some o ≡ true) →
        is_prepared u (works (naming_told u e d.names o).outs a).names ≡ false
    over None home =
        not_more (is_prepared u d.names) (is_prepared u a.names) (λ is. one.names u is) (none (is_prepared u d.names) (λ is. home is))
      where
        none : (x : Bool) → (x ≡ true → false ≡ true) → x ≡ false
        none true h = absurd (cc (h refl))
        none false h = refl
    over (Some m) home =
        let tail = (if is_on m.told u then did_nothing m else naming.told_new u (taken_end u e m) d.names m).outs in
        let mid : Disk = works (own_entries u e d.names) a in
        let own : Fewer a mid = ends_fewer (own_entries u e d.names) a (own_end u e d.names) one.order in
        let more : Fewer mid (works tail mid) = ends_fewer tail mid (rest_end u e d.names m (is_on m.told u)) own.order in
        ap (λ (x : Disk). is_prepared u x.names) (works_on (own_entries u e d.names) tail a)
        ∙ not_more (is_prepared u mid.names) (is_prepared u (works tail mid).names) (λ is. more.names u is)
        (own_over u e d.names a one.order (λ is. one.names u is))
