-- Bindings and incarnations at naming: of what is live and what was made, of what it is asked, and of what it answers and says.
use Rattle.arj_law_parts.proofs.Words
use Words.{⊤, ◌≡◌, ◌==◌, ◌||◌, ◌&&◌, ◌+◌, not, ℕ, Bool, true, false, cond, List, [], ◌∷◌, map, Option, Some, None, IfSome, refl}
use Words.{AllByRecursion, is_some, option_map, and_parts, list_all, nat_le, Binding, Body, BoundReply, ConfirmedReply, End, Entry, ObjectState, Path}
use Words.{RecordedReply, Row, Uid, entry, is_on, last_uid, lower_row, top_of, top_path, Grants, Marks, checked, confirm, confirm_entries, confirm_new}
use Words.{confirms, conflict_in, entries_after, first_of_each, has_all, is_bare, is_there, lock_all, lock_in, named_back, other_grant, prepared_by}
use Words.{recovered_naming, refused_exclude, wanted, is_granted, state_entry, same_nodes, is_listed, Already, Did, Do, Effect, InDoubt, Old, Pair}
use Words.{Prep, Ready, Say, Send, Served, did_nothing, either, is_prepared, prepare_answer, reply, void, Counted, Live, Made, Named}
use Words.{bind_call, bind_made, bind_named, conflict_on, end_named, hello_named, in_use, include_asked, is_lowered, live_above, live_after, live_asked}
use Words.{lock_lines, locked, lower_lines, lowered, made_above, make_asked, next_server, note_made, note_named, note_other, Naming, bind, hello}
use Words.{is_over, listed_entry, note, on_counted, on_named, told_new, at_number, at_uid, binding_eq, binding_less, is_binding, AreAll}
use Words.{is_naming_effect, is_naming_line, note_own, told_own, confirm_own}
use Words.body
use Words.confirmed
use Words.ending
use Words.mode
use Words.naming
use Words.recorded
use Words.what
use Rattle.arj_law_parts.proofs.parts.LivesNamed.{keyed_each, keyed_found, keyed_put}
use Rattle.arj_law_runs.proofs.addresses.Lists.{all_at_uid, all_put, all_without}
use Rattle.arj_law_runs.proofs.bindings.NamingLight.{confirm_light, note_light, told_light}
use Rattle.arj_law_runs.proofs.bindings.Weights.{AllLight}
use Rattle.arj_law_runs.specs.calls.Bindings.{bound_by}
use Rattle.arj_msg.specs.Fields.{BindingFits}
use Rattle.arj_msg.specs.InForm.{IsObject, IsShort}
use Rattle.arj_law_cause.proofs.numbers.Fits.{AllNums, BodyNums, BoundNums, ConfirmedNums, NotedNums, both_nums}

abbrev LiveNums : Live → Type 0
LiveNums l = BindingFits l.binding × IsShort l.inc

abbrev MadeNums : Uid × Made → Type 0
MadeNums e = BindingFits (let m = e.1 in m.binding)

-- what naming has of an object
abbrev NamedNums : ℕ → Named → Type 0
NamedNums x o = IfSome o.live LiveNums × AllByRecursion MadeNums o.made

-- its incarnation, and what it has of each
pub record NamingNums (n : Naming) : Type 0 where
  pub inc : IsShort n.inc
  pub objects : AllByRecursion (λ (e : ℕ × Named). NamedNums e.0 e.1) n.objects

pub recovered_nums : (inc : ℕ) (d : Pair) → IsShort inc → NamingNums (recovered_naming inc d)
recovered_nums inc d its = record { inc = its; objects = each d.held }
  where
    each : (es : List (Uid × ObjectState)) → AllByRecursion (λ (e : ℕ × Named). NamedNums e.0 e.1) (map (named_back d) es)
    each [] = tt
    each (e ∷ es) = ((tt, tt), each es)

-- naming says no binding but a new one
lines_nums : (es : List Effect) → AreAll is_naming_effect es → AllLight es → AllNums es
lines_nums [] own light = tt
lines_nums (Say b ∷ es) own light =
    let p = and_parts (is_naming_line b) (list_all is_naming_effect es) own in (line b p.0 light.0, lines_nums es p.1 light.1)
  where
    line : (b : Body) → is_naming_line b ≡ true → bound_by b ≡ 0 → BodyNums b
    line (body.Bound x b n) is none = absurd (cc none)
    line (body.Changed l n d) is none = absurd (cc is)
    line (body.Aborted l c) is none = absurd (cc is)
    line (body.Active n x b) is none = absurd (cc is)
    line b is none = tt
lines_nums (Send to m ∷ es) own light = absurd (cc own)
lines_nums (Do w ∷ es) own light = (tt, lines_nums es (and_parts (is_naming_effect (Do w)) (list_all is_naming_effect es) own).1 light.1)

locks_nums : (x : ℕ) (p : Path) (m : _) (o : Named) → AllNums (lock_lines x p m o)
locks_nums x p m o = by (is_granted (entry x) (last_uid (top_path p)) m o.rows)
  where
    by : (b : Bool) → AllNums (cond b [] (Say (body.Granted 1 (last_uid (top_path p)) (entry x) m) ∷ []))
    by true = tt
    by false = (tt, tt)

-- ---- bind

abbrev IsBound : Served Counted BoundReply → Type 0
IsBound r = (NamedNums 0 (let c = r.part in c.named) × AllNums r.outs) × IfSome r.reply BoundNums

module _ (p : Path) (x : ℕ) (is_object : IsObject x) (inc : ℕ) (own : IsShort inc) (e : Entry) (c : Counted) (next : IsShort (c.count + 1))
    (its : NamedNums 0 c.named) where
  live_nums : (l : Live) → LiveNums l → (r : Option Row) → IsBound (live_asked inc x p e c l r)
  live_nums l fits (Some r) = ((its, tt), tt)
  live_nums l fits None = ((its, locks_nums x p mode.Read c.named), (fits.0, fits.1, own))

  made_nums : (q : Option Made) → IfSome q (λ (m : Made). BindingFits m.binding) → IsBound (bind_made inc x p e c q)
  made_nums (Some m) fits = ((its, locks_nums x p mode.Write c.named), (fits, own))
  made_nums None fits = (
    (
      (
        its.0,
        all_put MadeNums (top_of p) (record {
          binding = record { inc = inc; count = c.count + 1 };
          server = next_server c.named.turn e.servers;
          recorded = false;
        }) c.named.made (λ w. (own, next)) its.1,
      ),
      both_nums (lock_lines x p mode.Write c.named)
          (Say (body.Bound x (record { inc = inc; count = c.count + 1 }) (next_server c.named.turn e.servers)) ∷ [])
          (locks_nums x p mode.Write c.named) ((is_object, (own, next)), tt),
    ),
    ((own, next), own),
  )

  above : (avoid : Binding) (q : Option Made) → IfSome q (λ (m : Made). BindingFits m.binding) →
      IfSome (made_above avoid q) (λ (m : Made). BindingFits m.binding)
  above avoid None fits = tt
  above avoid (Some m) fits = by (not m.recorded && binding_less avoid m.binding)
    where
      by : (b : Bool) → IfSome (cond {A = Option Made} b (Some m) None) (λ (k : Made). BindingFits k.binding)
      by true = fits
      by false = tt

  make_nums : (avoid : Binding) (r : Option Row) → IsBound (make_asked inc x p avoid e c r)
  make_nums avoid (Some r) = ((its, tt), tt)
  make_nums avoid None = made_nums (made_above avoid (at_uid (top_of p) c.named.made))
      (above avoid (at_uid (top_of p) c.named.made) (found (at_uid (top_of p) c.named.made) refl))
    where
      found : (q : Option Made) → at_uid (top_of p) c.named.made ≡ q → IfSome q (λ (m : Made). BindingFits m.binding)
      found None is = tt
      found (Some m) is = all_at_uid (λ (k : Made). BindingFits k.binding) (top_of p) m c.named.made its.1 is

  call_nums : (avoid : Binding) (l : Option Live) → IfSome l LiveNums → IsBound (bind_call inc x p avoid e c l)
  call_nums avoid (Some l) fits = live_nums l fits (conflict_on x p mode.Read c.named)
  call_nums avoid None fits = make_nums avoid (conflict_on x p mode.Write c.named)

  include_nums : (r : Option Row) → IsBound (include_asked inc x p e c r)
  include_nums (Some r) = ((its, tt), tt)
  include_nums None = ((its, locks_nums x p mode.Write c.named), own)

  bound_nums : (include : Bool) (avoid : Binding) → IsBound (bind_named inc x p include avoid e c)
  bound_nums true avoid = include_nums (conflict_on x p mode.Write c.named)
  bound_nums false avoid = call_nums avoid (live_above avoid c.named.live) (by c.named.live its.0)
    where
      by : (o : Option Live) → IfSome o LiveNums → IfSome (live_above avoid o) LiveNums
      by None fits = tt
      by (Some l) fits = one (binding_less avoid l.binding)
        where
          one : (b : Bool) → IfSome (cond {A = Option Live} b (Some l) None) LiveNums
          one true = fits
          one false = tt

pub bind_nums : (p : Path) (x : ℕ) → IsObject x → (include : Bool) (avoid : Binding) (d : Pair) (n : Naming) → IsShort (n.count + 1) →
    NamingNums n → (let r = bind p x include avoid d n in (NamingNums r.part × AllNums r.outs) × IfSome r.reply BoundNums)
bind_nums p x is_object include avoid d n next its = by (is_over p n)
  where
    Well : Served Naming BoundReply → Type 0
    Well r = (NamingNums r.part × AllNums r.outs) × IfSome r.reply BoundNums

    there : (o : Option Named) → at_number x n.objects ≡ o → Well (on_counted x (bind_named n.inc x p include avoid (listed_entry x d)) n o)
    there None is = ((its, tt), tt)
    there (Some o) is =
        let f = keyed_found NamedNums x n.objects o its.objects is in
        let r = bound_nums p x is_object n.inc its.inc (listed_entry x d) (record { named = o; count = n.count }) next f include avoid in (
          (
            record {
              inc = its.inc;
              objects = keyed_put NamedNums x (let z = bind_named n.inc x p include avoid (listed_entry x d) (record { named = o; count = n.count }) in
                  let y = z.part in y.named) n.objects r.0.0 its.objects;
            },
            r.0.1,
          ),
          r.1,
        )

    by : (b : Bool) → Well (cond b (void n) (on_counted x (bind_named n.inc x p include avoid (listed_entry x d)) n (at_number x n.objects)))
    by true = ((its, tt), tt)
    by false = there (at_number x n.objects) refl

-- ---- record

module _ (x : ℕ) (top : Uid) (b : Binding) (i : ℕ) (short : IsShort i) where
  abbrev Noted : Served Named RecordedReply → Type 0
  Noted r = NamedNums x r.part × IfSome r.reply NotedNums

  low_nums : (v : Named) → NamedNums x v → NamedNums x (lowered x top v)
  low_nums v s = by (is_lowered x top v)
    where
      by : (c : Bool) → NamedNums x (cond c (record v { rows = lower_row top (entry x) v.rows }) v)
      by true = s
      by false = s

  noted_nums : (o : Named) → NamedNums x o → (m : Made) → BindingFits m.binding → Noted (note_made x top i o m)
  noted_nums o s m fits = by m.recorded
    where
      by : (c : Bool) → Noted (cond {A = Served Named RecordedReply} c (reply o recorded.Yes)
          (record { part = lowered x top (in_use top m i o); outs = lower_lines x top o; reply = Some recorded.Yes }))
      by true = (s, tt)
      by false = (
        low_nums (in_use top m i o) ((fits, short), all_put MadeNums top (record m { recorded = true }) o.made (λ w. fits) s.1),
        tt,
      )

  other_nums : (o : Named) → NamedNums x o → (q : Option Made) → at_uid top o.made ≡ q → Noted (note_other x top b i o q)
  other_nums o s None is = (s, tt)
  other_nums o s (Some m) is = by (binding_eq b m.binding)
    where
      by : (c : Bool) → Noted (cond {A = Served Named RecordedReply} c (note_made x top i o m) (void o))
      by true = noted_nums o s m (all_at_uid (λ (k : Made). BindingFits k.binding) top m o.made s.1 is)
      by false = (s, tt)

  named_nums : (o : Named) → NamedNums x o → Noted (note_named x top b i o)
  named_nums o s = by (is_binding b o.recorded)
    where
      by : (c : Bool) → Noted (cond {A = Served Named RecordedReply} c (reply o recorded.Yes) (note_other x top b i o (at_uid top o.made)))
      by true = (s, tt)
      by false = other_nums o s (at_uid top o.made) refl

pub note_nums : (p : Path) (x : ℕ) (b : Binding) (i g : ℕ) (n : Naming) → IsShort i → IsShort g → NamingNums n →
    (let r = note p x b i g n in (NamingNums r.part × AllNums r.outs) × IfSome r.reply NotedNums)
note_nums p x b i g n short grant its =
    let f = by (is_over p n || not (is_some (at_number x n.objects))) (g == n.inc) in
    ((f.0, lines_nums (let r = note p x b i g n in r.outs) (note_own p x b i g n) (note_light p x b i g n)), f.1)
  where
    Well : Served Naming RecordedReply → Type 0
    Well r = NamingNums r.part × IfSome r.reply NotedNums

    there : (o : Option Named) → at_number x n.objects ≡ o → Well (on_named x (note_named x (top_of p) b i) n o)
    there None is = (its, tt)
    there (Some o) is = let f = named_nums x (top_of p) b i short o (keyed_found NamedNums x n.objects o its.objects is) in (
      record {
        inc = its.inc;
        objects = keyed_put NamedNums x (let z = note_named x (top_of p) b i o in z.part) n.objects f.0 its.objects;
      },
      f.1,
    )

    by : (over ours : Bool) → Well (cond {A = Served Naming RecordedReply} over (void n) (cond {A = Served Naming RecordedReply} ours
        (on_named x (note_named x (top_of p) b i) n (at_number x n.objects)) (reply n (recorded.Changed (what.Inc g n.inc)))))
    by true ours = (its, tt)
    by false true = there (at_number x n.objects) refl
    by false false = (its, (grant, its.inc))

-- ---- confirm

locked_all : (xs : List ℕ) (p : Path) (n : Naming) → NamingNums n → NamingNums (let t = lock_all xs p n in t.part)
locked_all [] p n its = its
locked_all (x ∷ xs) p n its = locked_all xs p (let t = lock_in x p n (at_number x n.objects) in t.part) (one (at_number x n.objects) refl)
  where
    one : (o : Option Named) → at_number x n.objects ≡ o → NamingNums (let t = lock_in x p n o in t.part)
    one None is = its
    one (Some o) is = record {
      inc = its.inc;
      objects = keyed_put NamedNums x (locked x p mode.Exclude o) n.objects (keyed_found NamedNums x n.objects o its.objects is) its.objects;
    }

either_nums : (o q : Option ConfirmedReply) → IfSome o ConfirmedNums → IfSome q ConfirmedNums → IfSome (either o q) ConfirmedNums
either_nums None q a b = b
either_nums (Some r) q a b = a

first_nums : {X : Type 0} (P : X → Type 0) (f : X → Option ConfirmedReply) → ((a : X) → P a → IfSome (f a) ConfirmedNums) → (xs : List X) →
    AllByRecursion P xs → IfSome (first_of_each f xs) ConfirmedNums
first_nums P f each [] all = tt
first_nums P f each (a ∷ xs) all = either_nums (f a) (first_of_each f xs) (each a all.0) (first_nums P f each xs all.1)

any : {X : Type 0} (xs : List X) → AllByRecursion (λ (a : X). ⊤) xs
any [] = tt
any (x ∷ xs) = (tt, any xs)

module _ (p : Path) (grants : Grants) (all : AllByRecursion (λ (g : ℕ × ℕ). IsShort g.1) grants) (excluded included : Marks) (d : Pair) where
  checks_nums : (n : Naming) → IsShort n.inc → IfSome (checked p grants excluded included d n) ConfirmedNums
  checks_nums n own = either_nums (first_of_each (other_grant n) grants) _ (first_nums (λ g. IsShort g.1) (other_grant n) other grants all)
      (either_nums (first_of_each (refused_exclude p n) (wanted (top_of p) grants excluded d)) _
      (first_nums (λ x. ⊤) (refused_exclude p n) (λ x u. excludes x) (wanted (top_of p) grants excluded d)
      (any (wanted (top_of p) grants excluded d)))
      (either_nums (first_of_each (is_there d) included) _ (first_nums (λ m. ⊤) (is_there d) (λ m u. there m) included (any included))
      (first_nums (λ s. ⊤) is_bare (λ s u. bare s) (entries_after (top_of p) grants excluded included d)
      (any (entries_after (top_of p) grants excluded included d)))))
    where
      other : (g : ℕ × ℕ) → IsShort g.1 → IfSome (other_grant n g) ConfirmedNums
      other g fits = by (g.1 == n.inc)
        where
          by : (b : Bool) → IfSome (cond {A = Option ConfirmedReply} b None (Some (confirmed.Changed (what.Inc g.1 n.inc)))) ConfirmedNums
          by true = tt
          by false = (fits, own)

      excludes : (x : ℕ) → IfSome (refused_exclude p n x) ConfirmedNums
      excludes x = by (conflict_in x p (at_number x n.objects))
        where
          by : (o : Option Row) → IfSome (option_map (λ (r : Row). confirmed.Conflict (last_uid r.holder) r.mode) o) ConfirmedNums
          by None = tt
          by (Some r) = tt

      there : (m : ℕ × ℕ) → IfSome (is_there d m) ConfirmedNums
      there m = by (is_listed m.1 (let e = listed_entry m.0 d in e.stores))
        where
          by : (b : Bool) → IfSome (cond {A = Option ConfirmedReply} b (Some (confirmed.Listed m.0 m.1)) None) ConfirmedNums
          by true = tt
          by false = tt

      bare : (s : ObjectState) → IfSome (is_bare s) ConfirmedNums
      bare s = by (same_nodes (let e = state_entry s in e.stores) [])
        where
          by : (b : Bool) → IfSome (cond {A = Option ConfirmedReply} b (Some (confirmed.NoStores s.uid.num)) None) ConfirmedNums
          by true = tt
          by false = tt

  pub confirm_nums : (n : Naming) → NamingNums n →
      (let r = confirm p grants excluded included d n in (NamingNums r.part × AllNums r.outs) × IfSome r.reply ConfirmedNums)
  confirm_nums n its =
      let f = by (is_over p n || not (has_all grants n)) (is_on n.confirmed (top_of p) || is_prepared (top_of p) d) in (
        (
          f.0,
          lines_nums (let r = confirm p grants excluded included d n in r.outs) (confirm_own p grants excluded included d n)
              (confirm_light p grants excluded included d n),
        ),
        f.1,
      )
    where
      Well : Served Naming ConfirmedReply → Type 0
      Well r = NamingNums r.part × IfSome r.reply ConfirmedNums

      answered : (states : List ObjectState) (t : Did Naming) (a : Prep) → NamingNums t.part → Well (prepared_by (top_of p) states t a)
      answered states t Ready s = (record { inc = s.inc; objects = s.objects }, tt)
      answered states t (Already u) s = (s, tt)
      answered states t (Old u v) s = (s, tt)
      answered states t (InDoubt u v) s = (s, tt)

      entries : (states : List ObjectState) (t : Did Naming) → NamingNums t.part → Well (confirm_entries (top_of p) states d t)
      entries [] t s = (record { inc = s.inc; objects = s.objects }, tt)
      entries (z ∷ zs) t s = answered (z ∷ zs) t (prepare_answer (top_of p) (z ∷ zs) d) s

      new : (c : Option ConfirmedReply) → IfSome c ConfirmedNums → Well (confirm_new p grants excluded included d n c)
      new (Some r) fits = (its, fits)
      new None fits = entries (entries_after (top_of p) grants excluded included d) (lock_all (wanted (top_of p) grants excluded d) p n)
          (locked_all (wanted (top_of p) grants excluded d) p n its)

      by : (over again : Bool) →
          Well (cond {A = Served Naming ConfirmedReply} over (void n) (cond {A = Served Naming ConfirmedReply} again (reply
          (confirms (top_of p) n) confirmed.Yes) (confirm_new p grants excluded included d n (checked p grants excluded included d n))))
      by true again = (its, tt)
      by false true = (record { inc = its.inc; objects = its.objects }, tt)
      by false false = new (checked p grants excluded included d n) (checks_nums n its.inc)

-- ---- ends, and a server that comes back

pub told_nums : (u : Uid) (e : End) (d : Pair) (n : Naming) → NamingNums n →
    (let t = naming.told u e d n in NamingNums t.part × AllNums t.outs)
told_nums u e d n its =
    (part_of (is_on n.told u), lines_nums (let t = naming.told u e d n in t.outs) (told_own u e d n) (told_light u e d n))
  where
    ended : (f : End) (x : ℕ) (o : Named) → NamedNums x o → NamedNums x (end_named u f o)
    ended ending.Commit x o s = (s.0, all_without MadeNums u o.made s.1)
    ended ending.Abort x o s = (s.0, all_without MadeNums u o.made s.1)

    part_of : (b : Bool) → NamingNums (let t = cond {A = Did Naming} b (did_nothing n) (told_new u (naming.taken_end u e n) d n) in t.part)
    part_of true = its
    part_of false = record {
      inc = its.inc;
      objects = keyed_each NamedNums (λ x. end_named u (naming.taken_end u e n)) (λ x o s. ended (naming.taken_end u e n) x o s) n.objects
          its.objects;
    }

pub hello_nums : (node inc : ℕ) (n : Naming) → NamingNums n → NamingNums (hello node inc n)
hello_nums node inc n its = record {
  inc = its.inc;
  objects = keyed_each NamedNums (λ x. hello_named node inc) (λ x o s. (by o.live s.0, s.1)) n.objects its.objects;
}
  where
    by : (o : Option Live) → IfSome o LiveNums → IfSome (live_after node inc o) LiveNums
    by None fits = tt
    by (Some l) fits = one ((l.server == node) && not (nat_le inc l.inc))
      where
        one : (b : Bool) → IfSome (cond {A = Option Live} b None (Some l)) LiveNums
        one true = tt
        one false = fits
