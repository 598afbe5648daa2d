-- Lines of which this holds, by the lines that are there: kept wherever each line that a handler says is so, and stays so as more are said.
use Rattle.arj_law_parts.proofs.Words
use Words.{ℕ, List, [], ◌∷◌, ◌++◌, true, ◌≡◌, AllByRecursion, and_parts, list_all, Body, Line, Effect, Do, Say, Send, Disk, Parts, worked}
use Words.{stopped, numbered, Seen}
use Words.body
use Rattle.arj_law_promise.proofs.Terms
use Terms.{Up, Walks, all_append, halted, posted, said}
use Rattle.arj_law_parts.specs.moves.Seen.{AreQuiet, is_quiet_line}
use Rattle.arj_law_parts.specs.steps.Spoken.{SaidIn}

module _ (S : List Line → Body → Type 0) (later : (ls more : List Line) (b : Body) → S ls b → S (ls ++ more) b)
    (quiet : (ls : List Line) (b : Body) → is_quiet_line b ≡ true → S ls b) (halts : (ls : List Line) (k : ℕ) → S ls (body.Halted k)) where
  abbrev AllSo : List Line → List Line → Type 0
  AllSo ls xs = AllByRecursion (λ (l : Line). S ls l.body) xs

  -- each line is so
  abbrev pub LinesSo : Seen → Type 0
  LinesSo M = AllSo M.lines M.lines

  all_later : (ls more xs : List Line) → AllSo ls xs → AllSo (ls ++ more) xs
  all_later ls more [] all = tt
  all_later ls more (x ∷ xs) all = (later ls more x.body all.0, all_later ls more xs all.1)

  effects_later : (ls more : List Line) (es : List Effect) → AllByRecursion (SaidIn (S ls)) es → AllByRecursion (SaidIn (S (ls ++ more))) es
  effects_later ls more [] all = tt
  effects_later ls more (Say b ∷ es) all = (later ls more b all.0, effects_later ls more es all.1)
  effects_later ls more (Send to m ∷ es) all = (tt, effects_later ls more es all.1)
  effects_later ls more (Do w ∷ es) all = (tt, effects_later ls more es all.1)

  lines_of : (ls more : List Line) (e : ℕ) (bs : List Body) → AllByRecursion (S ls) bs → AllSo (ls ++ more) (numbered e bs)
  lines_of ls more e [] all = tt
  lines_of ls more e (b ∷ bs) all = (later ls more b all.0, lines_of ls more e bs all.1)

  quiet_all : (ls : List Line) (bs : List Body) → AreQuiet bs → AllByRecursion (S ls) bs
  quiet_all ls [] are = tt
  quiet_all ls (b ∷ bs) are =
      let p = and_parts (is_quiet_line b) (list_all is_quiet_line bs) are in (quiet ls b p.0, quiet_all ls bs p.1)

  pub said_so : (e : ℕ) (bs : List Body) (M : Seen) → AllByRecursion (S M.lines) bs → LinesSo M → LinesSo (said e bs M)
  said_so e bs M all so = all_append (λ (l : Line). S (M.lines ++ numbered e bs) l.body) M.lines (numbered e bs)
      (all_later M.lines (numbered e bs) M.lines so) (lines_of M.lines (numbered e bs) e bs all)

  pub quiet_so : (e : ℕ) (bs : List Body) (M : Seen) → AreQuiet bs → LinesSo M → LinesSo (said e bs M)
  quiet_so e bs M are so = said_so e bs M (quiet_all M.lines bs are) so

  pub halted_so : (e k : ℕ) (d : Disk) (M : Seen) → LinesSo M → LinesSo (halted e k d M)
  halted_so e k d M so = said_so e (body.Halted k ∷ []) M (halts M.lines k, tt) so

  -- effects whose lines are so
  pub walk_so : (e k : ℕ) (v : Parts) (outs : List Effect) (d : Disk) (M : Seen) → AllByRecursion (SaidIn (S M.lines)) outs → LinesSo M →
      Walks LinesSo e k outs (Up LinesSo k v) d M
  walk_so e k v [] d M all so = so
  walk_so e k v (Do w ∷ es) d M all so = (λ how. halted_so e k (stopped how w d) M so, walk_so e k v es (worked w d) M all.1 so)
  walk_so e k v (Say b ∷ es) d M all so = walk_so e k v es d (said e (b ∷ []) M) (effects_later M.lines (numbered e (b ∷ [])) es all.1)
      (said_so e (b ∷ []) M (all.0, tt) so)
  walk_so e k v (Send to m ∷ es) d M all so = λ more are. walk_so e k v es d (said e more
      (posted (record { from = k; to = to; message = m }) M)) (effects_later M.lines (numbered e more) es all.1)
      (quiet_so e more (posted (record { from = k; to = to; message = m }) M) are so)
