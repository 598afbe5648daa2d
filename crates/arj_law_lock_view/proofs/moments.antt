-- When answers are made, and who takes them.
--
-- Each answer that was sent was made at a place of the journal, behind each event that can own its request, and where its frame was sent; and
-- there so much is said of the lines before (`specs/moments/Made.antt`). That is shown once, of every kind of answer, and whatever answers say
-- (`proofs/moments/Answers.antt`): a request is served with lines alone before its answer goes out, and what a server answers again it has kept
-- since (`proofs/moments/Serving.antt`); lines and messages that come later change nothing of it (`proofs/moments/Later.antt`).
pub mod Later
pub mod Serving
pub mod Answers
pub mod Spans
