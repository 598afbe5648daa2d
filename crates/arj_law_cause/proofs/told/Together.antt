-- A journal is parted into its events in one way, so that what laws say of it one by one holds of it together.
use Rattle.arj_law_parts.proofs.Words
use Words.{◌≡◌, ◌⊎◌, ◌∙◌, ◌+◌, ◌<◌, ◌&&◌, ◌++◌, inl, inr, ⊎_elim, ℕ, Bool, true, false, List, [], ◌∷◌, refl, sym, ap, subst, arith, length}
use Words.{cond, suc, append-nil, append_assoc, and_parts, list_all, AllByRecursion, Body, Event, Header, Kind, Label, Line, name}
use Words.body
use Words.cause
use Words.event
use Words.kind
use Rattle.std.specs.Prelude.{MatchOption, Option, Some, None, drop}
use Rattle.arj_law_runs.proofs.addresses.Lists.{all_append}
use Rattle.arj_law_runs.specs.follow.Frames.{are_so}
use Rattle.arj_model.specs.Actions.{Act, act_in, acts}
use Rattle.arj_model.specs.CauseSpans.{Here, behind, here_at}
use Rattle.arj_model.specs.Follows.{Accepted, AreEnding, Runs, Step, is_ending}
use Rattle.arj_model.specs.Own.{AreAborted, AreGiveUps, Begins, BeginsCommit, Ends, MayMeetLimit, aborted_of, commit_line, may_stand}
use Rattle.arj_model.specs.Past.{Along, Past, asked_of, at_start, block, is_refused, next}
use Rattle.arj_model.specs.Refusals.{refusal}
use Rattle.arj_start.specs.Start.{Start}

-- ---- no event writes a line that stands behind all events

abbrev pub AreInside : List Body → Type 0
AreInside bs = AllByRecursion (λ b. is_ending b ≡ false) bs

never_ends : (e : Event) (b : Body) → may_stand e b ≡ true → is_ending b ≡ false
never_ends e (body.Bad n) may = absurd (bad e may)
  where
    bad : (e : Event) → may_stand e (body.Bad n) ≡ true → ⊥
    bad event.Settle may = cc may
    bad event.Quiesce may = cc may
    bad e may = cc may
never_ends e (body.Limit which) may = absurd (limit e may)
  where
    limit : (e : Event) → may_stand e (body.Limit which) ≡ true → ⊥
    limit event.Settle may = cc may
    limit event.Quiesce may = cc may
    limit e may = cc may
never_ends e b may = refl

between_inside : (e : Event) (bs : List Body) → list_all (may_stand e) bs ≡ true → AreInside bs
between_inside e [] all = tt
between_inside e (b ∷ bs) all =
    let q = and_parts (may_stand e b) (list_all (may_stand e) bs) all in (never_ends e b q.0, between_inside e bs q.1)

one : (bs : List Body) (b : Body) → is_ending b ≡ false → bs ≡ b ∷ [] → AreInside bs
one bs b inside is = subst AreInside (sym is) (inside, tt)

none : (bs : List Body) → bs ≡ [] → AreInside bs
none bs is = subst AreInside (sym is) tt

limit_inside : (last : List Body) → MayMeetLimit last → AreInside last
limit_inside last may = ⊎_elim (none last) (one last _ refl) may

last_inside : (e : Event) (own last : List Body) → Ends e own last → AreInside last
last_inside event.Quiesce own last may = ⊎_elim (λ q. one last _ refl q.1) (one last _ refl) may
last_inside (event.Junk n bytes) [] last limit = one last _ refl limit
last_inside (event.Junk n bytes) (b ∷ own) last is = none last is
last_inside (event.Call l x op) own last may = limit_inside last may
last_inside (event.Include l x n) own last may = limit_inside last may
last_inside (event.Commit l) own last may = limit_inside last may
last_inside (event.Abort l) own last may = limit_inside last may
last_inside (event.GiveUp l) own last may = limit_inside last may
last_inside (event.Deliver k) own last may = limit_inside last may
last_inside (event.Tick n) own last may = limit_inside last may
last_inside event.Settle own last may = limit_inside last may
last_inside (event.Restart n) own last may = limit_inside last may
last_inside (event.Begin l n) own last is = none last is
last_inside (event.Serial l n) own last is = none last is
last_inside (event.BeginIn l p) own last is = none last is
last_inside (event.Top l p) own last is = none last is
last_inside (event.Lose k) own last is = none last is
last_inside (event.Crash n) own last is = none last is
last_inside (event.Stop n calls how) own last is = none last is
last_inside (event.Show x) own last is = none last is

aborts_inside : (as_begun : List Act) (own : List Body) → AreAborted as_begun own → AreInside own
aborts_inside [] [] its = tt
aborts_inside [] (b ∷ own) its = absurd its
aborts_inside (a ∷ rest) (body.Aborted l cause.Asked ∷ own) its = (refl, aborts_inside rest own its.1)
aborts_inside (a ∷ rest) own its = absurd its

giveups_inside : (l : Label) (own : List Body) → AreGiveUps l own → AreInside own
giveups_inside l (body.GaveUp m n ∷ []) its = (refl, tt)
giveups_inside l (body.GaveUp m n ∷ body.GaveUp k i ∷ own) its = (refl, giveups_inside l (body.GaveUp k i ∷ own) its.2)
giveups_inside l own its = absurd its

module _ (hd : Header) (p : Past) where
  commit_inside : (l : Label) (own : List Body) (o : Option Act) → BeginsCommit p l o own → AreInside own
  commit_inside l own None its = absurd its
  commit_inside l own (Some a) its = ⊎_elim (by a.kind) (λ d. one own _ refl d.0) its
    where
      by : (k : Kind) → own ≡ commit_line k l ∷ [] → AreInside own
      by kind.Nested is = one own _ refl is
      by kind.Serial is = one own _ refl is
      by kind.Top is = one own _ refl is
      by kind.Independent is = one own _ refl is
      by kind.Constituent is = one own _ refl is

  own_inside : (e : Event) (own : List Body) → Begins hd p e own → AreInside own
  own_inside (event.Commit l) own its = commit_inside l own (act_in (acts p.lines) (name l)) its
  own_inside (event.Begin l n) own its = one own _ refl its
  own_inside (event.Serial l n) own its = one own _ refl its
  own_inside (event.BeginIn l q) own its = one own _ refl its.2
  own_inside (event.Top l q) own its = one own _ refl its.2
  own_inside (event.Abort l) own its = aborts_inside (aborted_of p.lines (act_in (acts p.lines) (name l))) own its
  own_inside (event.GiveUp l) own its = giveups_inside l own its
  own_inside (event.Deliver k) own its = ⊎_elim (one own _ refl) (one own _ refl) its
  own_inside (event.Lose k) own its = one own _ refl its
  own_inside (event.Crash n) own its = one own _ refl its
  own_inside (event.Restart n) own its = ⊎_elim (λ r. one own _ refl r.2) (one own _ refl) its
  own_inside (event.Stop n calls how) own its = one own _ refl its
  own_inside (event.Junk n bytes) own its = ⊎_elim (one own _ refl) (none own) its
  own_inside (event.Call l x op) own its = none own its
  own_inside (event.Include l x n) own its = none own its
  own_inside (event.Tick n) own its = none own its
  own_inside event.Settle own its = none own its
  own_inside event.Quiesce own its = none own its
  own_inside (event.Show x) own its = none own its

  pub step_inside : (e : Event) (bodies : List Body) → Step hd p e bodies → AreInside bodies
  step_inside e bodies s = ⊎_elim (by (refusal hd p e)) (λ d. one bodies _ refl d.line) s.lines
    where
      by : (o : Option ℕ) → MatchOption o (Accepted hd p e bodies) (λ c. bodies ≡ body.Refused c ∷ []) → AreInside bodies
      by (Some c) is = one bodies _ refl is
      by None a = subst AreInside (sym a.parts) (all_append (λ b. is_ending b ≡ false) a.own (a.others ++ a.last) (own_inside e a.own a.begins)
          (all_append (λ b. is_ending b ≡ false) a.others a.last (between_inside e a.others a.only) (last_inside e a.own a.last a.ends)))

-- ---- lines of one number, and others behind them

abbrev AreLater : ℕ → List Line → Type 0
AreLater n ls = AllByRecursion (λ (l : Line). n < l.event) ls

behind_same : (ls xs ys : List Line) → ls ++ xs ≡ ls ++ ys → xs ≡ ys
behind_same [] xs ys is = is
behind_same (l ∷ ls) xs ys is = behind_same ls xs ys (ap (drop 1) is)

abbrev first_line : Line → List Line → Line
first_line other [] = other
first_line other (l ∷ ls) = l

same_head : (n : ℕ) (b c : Body) (xs ys : List Line) → (record { event = n; body = b }) ∷ xs ≡ (record { event = n; body = c }) ∷ ys → b ≡ c
same_head n b c xs ys is = ap (λ ls. let l = first_line (record { event = n; body = b }) ls in l.body) is

not_later : (n : ℕ) → n < n → ⊥
not_later n is = omega (arith, is)

-- the same lines have the same of that number
same_block : (n : ℕ) (as_one bs : List Body) (xs ys : List Line) → AreLater n xs → AreLater n ys → block n as_one ++ xs ≡ block n bs ++ ys →
    (as_one ≡ bs) × (xs ≡ ys)
same_block n [] [] xs ys later after is = (refl, is)
same_block n [] (b ∷ bs) xs ys later after is = absurd (not_later n (let all = subst (AreLater n) is later in all.0))
same_block n (a ∷ rest) [] xs ys later after is = absurd (not_later n (let all = subst (AreLater n) (sym is) after in all.0))
same_block n (a ∷ rest) (b ∷ bs) xs ys later after is =
    let r = same_block n rest bs xs ys later after (ap (drop 1) is) in
    let h = same_head n a b (block n rest ++ xs) (block n bs ++ ys) is in
    (λ i. h i ∷ r.0 i, r.1)

-- the last event's lines, of which none is an ending, are the same, or are followed by one that is
same_last : (n : ℕ) (as_one bs : List Body) (xs ys : List Line) → AreInside as_one → AreEnding n xs → AreEnding n ys →
    block n as_one ++ xs ≡ block n bs ++ ys → (as_one ≡ bs) ⊎ ((x : Body) × (is_ending x ≡ true) × (bs ≡ as_one ++ x ∷ []))
same_last n [] [] xs ys inside end other is = inl refl
same_last n [] (b ∷ bs) [] ys inside end other is = absurd (cc is)
same_last n [] (b ∷ []) (x ∷ []) ys inside end other is =
    inr (b, ap (λ ls. let l = first_line x ls in is_ending l.body) (sym is) ∙ end.1, refl)
same_last n [] (b ∷ c ∷ bs) (x ∷ []) ys inside end other is = absurd (cc is)
same_last n [] bs (x ∷ z ∷ xs) ys inside end other is = absurd end
same_last n (a ∷ rest) [] xs [] inside end other is = absurd (cc is)
same_last n (a ∷ rest) [] xs (y ∷ []) inside end other is =
    absurd (cc (sym inside.0 ∙ ap (λ ls. let l = first_line y ls in is_ending l.body) is ∙ other.1))
same_last n (a ∷ rest) [] xs (y ∷ z ∷ ys) inside end other is = absurd other
same_last n (a ∷ rest) (b ∷ bs) xs ys inside end other is =
    let h = same_head n a b (block n rest ++ xs) (block n bs ++ ys) is in
    ⊎_elim (λ r. inl (λ i. h i ∷ r i)) (λ r. inr (r.0, r.1, λ i. sym h i ∷ r.2 i))
    (same_last n rest bs xs ys inside.1 end other (ap (drop 1) is))

-- ---- lines of events, and of those behind them

is_more : (n : ℕ) → n < n + 1
is_more n = omega arith

later_too : (n : ℕ) (ls : List Line) → AreLater (n + 1) ls → AreLater n ls
later_too n [] all = tt
later_too n (l ∷ ls) all = (omega (arith, all.0), later_too n ls all.1)

block_later : (n : ℕ) (bs : List Body) (ls : List Line) → AreLater n ls → AreLater n (block (n + 1) bs ++ ls)
block_later n [] ls all = all
block_later n (b ∷ bs) ls all = (is_more n, block_later n bs ls all)

along_lines : (P : Past → Event → List Body → Type 0) (es : List Event) (p end : Past) → Along P p es end →
    (more : List Line) × (end.lines ≡ p.lines ++ more) × AreLater p.count more
along_lines P [] p end a = ([], ap (λ (q : Past). q.lines) (sym a) ∙ sym (append-nil p.lines), tt)
along_lines P (e ∷ es) p end a =
    let r = along_lines P es (next p e a.0) end a.2 in (
      block (p.count + 1) a.0 ++ r.0,
      r.1 ∙ append_assoc p.lines (block (p.count + 1) a.0) r.0,
      block_later p.count a.0 r.0 (later_too p.count r.0 r.2),
    )

ending_later : (n m : ℕ) → n < m → (xs : List Line) → AreEnding m xs → AreLater n xs
ending_later n m less [] end = tt
ending_later n m less (x ∷ []) end = (subst (λ k. n < k) (sym end.0) less, tt)
ending_later n m less (x ∷ y ∷ xs) end = absurd end

-- ---- a test of lines, beside what is known of each event

one_refused : (bs : List Body) → is_refused bs ≡ true → (c : ℕ) × (bs ≡ body.Refused c ∷ [])
one_refused [] is = absurd (cc is)
one_refused (body.Refused c ∷ []) is = (c, refl)
one_refused (body.Refused c ∷ b ∷ bs) is = absurd (cc is)
one_refused (b ∷ bs) is = absurd (cc is)

two_lines : (b x : Body) (bs : List Body) → is_refused (b ∷ x ∷ bs) ≡ false
two_lines (body.Refused c) x bs = refl
two_lines b x bs = refl

more_lines : (bs : List Body) (x : Body) → is_ending x ≡ true → is_refused (bs ++ x ∷ []) ≡ false
more_lines [] (body.Refused c) is = absurd (cc is)
more_lines [] x is = refl
more_lines (b ∷ []) x is = two_lines b x []
more_lines (b ∷ c ∷ bs) x is = two_lines b c (bs ++ x ∷ [])

module _ (hd : Header) (Q : Past → Event → List Body → Type 0) (f : Here → Body → Bool)
    (refusals : (h : Here) (c : ℕ) → f h (body.Refused c) ≡ true) where
  abbrev Known : Past → Event → List Body → Type 0
  Known p e bs = Step hd p e bs × Q p e bs

  abbrev Tests : Past → Event → List Body → Type 0
  Tests p e bs = are_so f (here_at hd p e bs) bs ≡ true

  abbrev pub Both : Past → Event → List Body → Type 0
  Both p e bs = Step hd p e bs × (Q p e bs × Tests p e bs)

  front_so : (h : Here) (bs : List Body) (x : Body) → are_so f h (bs ++ x ∷ []) ≡ true → are_so f h bs ≡ true
  front_so h [] x is = refl
  front_so h (b ∷ bs) x is =
      let q = and_parts (f h b) (are_so f (behind h b) (bs ++ x ∷ [])) is in λ i. q.0 i && front_so (behind h b) bs x q.1 i

  -- it holds of an event's lines without the ending
  front_tests : (p : Past) (e : Event) (bs : List Body) (x : Body) → is_ending x ≡ true → Tests p e (bs ++ x ∷ []) → Tests p e bs
  front_tests p e bs x last tests = by (is_refused bs) refl
    where
      by : (b : Bool) → is_refused bs ≡ b → Tests p e bs
      by true is =
          let r = one_refused bs is in subst (Tests p e) (sym r.1) (λ i. refusals (here_at hd p e (body.Refused r.0 ∷ [])) r.0 i && true)
      by false is = front_so (here_at hd p e bs) bs x (subst (λ (h : Here). are_so f h (bs ++ x ∷ []) ≡ true)
          (λ i. record (here_at hd p e bs) {
            accepted = cond ((more_lines bs x last ∙ sym is) i) p.accepted
                (p.accepted ++ asked_of p e ∷ []);
          }) tests)

  go : (es : List Event) (p end other : Past) (xs ys : List Line) → Along Known p es end → Along Tests p es other →
      AreEnding (p.count + length es) xs → AreEnding (p.count + length es) ys → end.lines ++ xs ≡ other.lines ++ ys → Along Both p es end
  go [] p end other xs ys a b last final is = a
  go (e ∷ []) p end other xs ys a b last final is =
      (a.0, (a.1.0, (a.1.1, ⊎_elim same longer (same_last (p.count + 1) a.0 b.0 xs ys (step_inside hd p e a.0 a.1.0) last final lines))), a.2)
    where
      lines : block (p.count + 1) a.0 ++ xs ≡ block (p.count + 1) b.0 ++ ys
      lines = behind_same p.lines (block (p.count + 1) a.0 ++ xs) (block (p.count + 1) b.0 ++ ys)
          (sym (append_assoc p.lines (block (p.count + 1) a.0) xs) ∙ ap (λ (q : Past). q.lines ++ xs) a.2 ∙ is
          ∙ ap (λ (q : Past). q.lines ++ ys) (sym b.2) ∙ append_assoc p.lines (block (p.count + 1) b.0) ys)

      same : a.0 ≡ b.0 → Tests p e a.0
      same its = subst (Tests p e) (sym its) b.1

      longer : ((x : Body) × (is_ending x ≡ true) × (b.0 ≡ a.0 ++ x ∷ [])) → Tests p e a.0
      longer x = front_tests p e a.0 x.0 x.1 (subst (Tests p e) x.2 b.1)
  go (e ∷ d ∷ es) p end other xs ys a b last final is = (
    a.0,
    (a.1.0, (a.1.1, subst (Tests p e) (sym same) b.1)),
    go (d ∷ es) (next p e a.0) end other xs ys a.2
        (subst (λ bs. Along Tests (next p e bs) (d ∷ es) other) (sym same) b.2)
        (subst (λ n. AreEnding n xs) (number p.count (length es)) last) (subst (λ n. AreEnding n ys) (number p.count (length es)) final) is,
  )
    where
      number : (n m : ℕ) → n + suc (suc m) ≡ (n + 1) + suc m
      number n m = omega arith

      beyond : (n m : ℕ) → n + 1 < n + suc (suc m)
      beyond n m = omega arith

      l : (more : List Line) × (end.lines ≡ (next p e a.0).lines ++ more) × AreLater (p.count + 1) more
      l = along_lines Known (d ∷ es) (next p e a.0) end a.2

      r : (more : List Line) × (other.lines ≡ (next p e b.0).lines ++ more) × AreLater (p.count + 1) more
      r = along_lines Tests (d ∷ es) (next p e b.0) other b.2

      parts : (bs : List Body) (more zs : List Line) → ((p.lines ++ block (p.count + 1) bs) ++ more) ++ zs
          ≡ p.lines ++ (block (p.count + 1) bs ++ (more ++ zs))
      parts bs more zs = append_assoc (p.lines ++ block (p.count + 1) bs) more zs ∙ append_assoc p.lines (block (p.count + 1) bs) (more ++ zs)

      lines : block (p.count + 1) a.0 ++ (l.0 ++ xs) ≡ block (p.count + 1) b.0 ++ (r.0 ++ ys)
      lines = behind_same p.lines (block (p.count + 1) a.0 ++ (l.0 ++ xs)) (block (p.count + 1) b.0 ++ (r.0 ++ ys))
          (sym (parts a.0 l.0 xs) ∙ ap (λ ls. ls ++ xs) (sym l.1) ∙ is ∙ ap (λ ls. ls ++ ys) r.1 ∙ parts b.0 r.0 ys)

      behind_later : (more zs : List Line) → AreLater (p.count + 1) more → AreEnding (p.count + suc (suc (length es))) zs →
          AreLater (p.count + 1) (more ++ zs)
      behind_later more zs all ends = all_append (λ (x : Line). p.count + 1 < x.event) more zs all
          (ending_later (p.count + 1) (p.count + suc (suc (length es))) (beyond p.count (length es)) zs ends)

      same : a.0 ≡ b.0
      same = (same_block (p.count + 1) a.0 b.0 (l.0 ++ xs) (r.0 ++ ys) (behind_later l.0 xs l.2 last) (behind_later r.0 ys r.2 final) lines).0

  -- each event's lines pass the test, beside what is known of them
  pub together : (st : Start) (es : List Event) (journal : List Line) → Runs Known st es journal → Runs Tests st es journal → Runs Both st es journal
  together st es journal a b = (
    a.0,
    a.1,
    go es (at_start st) a.0 b.0 a.1 b.1 a.2 b.2 (subst (λ n. AreEnding n a.1) (first (length es)) a.4)
        (subst (λ n. AreEnding n b.1) (first (length es)) b.4) (sym a.3 ∙ b.3),
    a.3,
    a.4,
  )
    where
      first : (n : ℕ) → n ≡ 0 + n
      first n = omega arith
