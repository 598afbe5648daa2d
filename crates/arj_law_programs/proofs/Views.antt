-- What is read of a journal of programs, line by line.
use Rattle.std.proofs.Common.{◌≡◌, ◌<◌, ◌⊎◌, inl, inr, ℕ, ◌+◌, List, [], ◌∷◌, ◌++◌, length, refl, sym, subst, arith, Option, Some, None}
use Rattle.std.proofs.Common.{append-nil}
use Rattle.std.specs.List.{AllByRecursion}
use Rattle.std.specs.Option.{option_map}
use Rattle.arj_base.specs.declared.uid.Uid.{Uid}
use Rattle.arj_journal.specs.declared.body.Body.{Body}
use Rattle.arj_journal.specs.declared.body.Body.TheVariants as body
use Rattle.arj_journal.specs.declared.body.Kind.{Kind}
use Rattle.arj_journal.specs.declared.body.Kind.TheVariants as kind
use Rattle.arj_journal.specs.declared.body.Line.{Line}
use Rattle.arj_text.specs.Label.{name}
use Rattle.arj_text.specs.declared.label.Label.{Label}
use Rattle.arj_model.specs.Actions.{Act, Placed, acts, acts_after, committed, committed_of, path, put}
use Rattle.arj_model.specs.Calls.{Said, said, said_of}
use Rattle.arj_model.proofs.Read.{acts-append, read-append}
use Rattle.arj_law_programs.proofs.Labels.{IsOf}
use Rattle.arj_law_programs.proofs.Acts.{AreNumbered, In, IsGood, IsOwnPath, all_append, all_map, own_more, path_named, path_own}

-- What is read of a journal: its actions, its answered calls, and its commits.
pub record View : Type 0 where
  pub acts : List Act
  pub said : List (Placed Said)
  pub ends : List (Placed ℕ)

abbrev pub view : List Line → View
view ls = record { acts = acts ls; said = said ls; ends = committed ls }

-- with one line more
abbrev pub next_view : ℕ → Body → View → View
next_view n b v = record {
  acts = acts_after v.acts b;
  said = v.said ++ put n (said_of v.acts b) [];
  ends = v.ends ++ put n (committed_of v.acts b) [];
}

pub view_more : (ls : List Line) (l : Line) → view (ls ++ l ∷ []) ≡ next_view (0 + length ls) l.body (view ls)
view_more ls l i = record {
  acts = acts-append [] ls l i;
  said = read-append said_of [] 0 ls l i;
  ends = read-append committed_of [] 0 ls l i;
}

-- a line of which nothing is read changes nothing
pub nothing_read : (v : View) → v ≡ record { acts = v.acts; said = v.said ++ []; ends = v.ends ++ [] }
nothing_read v i = record { acts = v.acts; said = sym (append-nil v.said) i; ends = sym (append-nil v.ends) i }

-- ---- a sound view

-- the path of a call: of one program, of actions that are there
abbrev pub IsRead : List Act → List Act → Type 0
IsRead us p = (i : ℕ) × IsOwnPath us i p

-- a top whose commit was called stands alone on its path
abbrev pub IsCalled : List Act → List Act → Type 0
IsCalled us p = (a : Act) × (p ≡ a ∷ []) × In a us × (a.kind ≡ kind.Top)

pub record Sound (v : View) : Type 0 where
  pub numbered : AreNumbered v.acts
  pub good : AllByRecursion IsGood v.acts
  pub said : AllByRecursion (λ (s : Placed Said). IsRead v.acts s.it.path) v.said
  pub ends : AllByRecursion (λ (e : Placed ℕ). e.it < length v.acts) v.ends

-- each top whose commit was called stands so
abbrev pub AreCalled : List Act → List (Placed (List Act)) → Type 0
AreCalled us ms = AllByRecursion (λ (m : Placed (List Act)). IsCalled us m.it) ms

pub read_path : (us : List Act) → AllByRecursion IsGood us → (l : List ℕ) → IsRead us (path us l)
read_path us good l = by (path_named us good l)
  where
    by : (path us l ≡ []) ⊎ ((i : ℕ) × IsOf i l) → IsRead us (path us l)
    by (inl none) = (0, subst (IsOwnPath us 0) (sym none) tt)
    by (inr (i, of)) = (i, path_own us good i l of)

-- an item more, if there is one
pub all_put : {A : Type 0} (P : Placed A → Type 0) (n : ℕ) (o : Option A) (xs : List (Placed A)) → AllByRecursion P xs →
    ((a : A) → o ≡ Some a → P (record { at = n; it = a })) → AllByRecursion P (xs ++ put n o [])
all_put P n None xs all one = all_append P xs [] all tt
all_put P n (Some a) xs all one = all_append P xs (record { at = n; it = a } ∷ []) all (one a refl, tt)

-- the action that a line begins
abbrev pub act_begun : View → Label → Kind → Uid → Option Label → Act
act_begun v l k u p = record { id = length v.acts; label = name l; kind = k; uid = u; parent = option_map name p }

read_more : (us : List Act) (u : Act) (p : List Act) → IsRead us p → IsRead (u ∷ us) p
read_more us u p r = (r.0, own_more us u r.0 p r.1)

pub called_more : (us : List Act) (u : Act) (p : List Act) → IsCalled us p → IsCalled (u ∷ us) p
called_more us u p (a, is, there, top) = (a, is, inr there, top)

pub sound_begun : (n : ℕ) (v : View) (l : Label) (k : Kind) (u : Uid) (p : Option Label) → Sound v → IsGood (act_begun v l k u p) →
    Sound (next_view n (body.Began l k u p) v)
sound_begun n v l k u p s good =
    let a : Act = act_begun v l k u p in
    subst (λ w. Sound (record { acts = a ∷ v.acts; said = w.said; ends = w.ends })) (nothing_read v)
    (record {
      numbered = (refl, s.numbered);
      good = (good, s.good);
      said = all_map (λ (x : Placed Said). IsRead v.acts x.it.path) (λ x. IsRead (a ∷ v.acts) x.it.path)
          (λ x r. read_more v.acts a x.it.path r) v.said s.said;
      ends = all_map (λ (e : Placed ℕ). e.it < length v.acts) (λ e. e.it < length (a ∷ v.acts)) (λ e low. omega (arith, low)) v.ends s.ends;
    })

pub sound_answered : (n : ℕ) (v : View) (s : Said) → Sound v → IsRead v.acts s.path →
    Sound (record { acts = v.acts; said = v.said ++ record { at = n; it = s } ∷ []; ends = v.ends ++ [] })
sound_answered n v s h r = record {
  numbered = h.numbered;
  good = h.good;
  said = all_append (λ (x : Placed Said). IsRead v.acts x.it.path) v.said (record { at = n; it = s } ∷ []) h.said (r, tt);
  ends = all_append (λ (e : Placed ℕ). e.it < length v.acts) v.ends [] h.ends tt;
}

pub sound_ended : (n : ℕ) (v : View) (o : Option ℕ) → Sound v → ((e : ℕ) → o ≡ Some e → e < length v.acts) →
    Sound (record { acts = v.acts; said = v.said ++ []; ends = v.ends ++ put n o [] })
sound_ended n v o h low = record {
  numbered = h.numbered;
  good = h.good;
  said = all_append (λ (x : Placed Said). IsRead v.acts x.it.path) v.said [] h.said tt;
  ends = all_put (λ (e : Placed ℕ). e.it < length v.acts) n o v.ends h.ends low;
}

-- nothing of what is sound was read
pub sound_still : (v : View) → Sound v → Sound (record { acts = v.acts; said = v.said ++ []; ends = v.ends ++ [] })
sound_still v h = subst Sound (nothing_read v) h

-- more actions
pub called_begun : (us : List Act) (u : Act) (ms : List (Placed (List Act))) → AreCalled us ms → AreCalled (u ∷ us) ms
called_begun us u ms all =
    all_map (λ (m : Placed (List Act)). IsCalled us m.it) (λ m. IsCalled (u ∷ us) m.it) (λ m c. called_more us u m.it c) ms all
