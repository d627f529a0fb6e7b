-- Digests of texts.
use Rattle.std.specs.Prelude.{ℕ, List, ◌++◌, take, replicate}

-- a rule by which every text has a digest
abbrev pub Digest : Type 0
Digest = List ℕ → List ℕ

-- the text's first 32 bytes, filled up with zero bytes
abbrev pub plain_digest : Digest
plain_digest text = take 32 (text ++ replicate 32 0)

-- 32 zero bytes, whatever the text is
abbrev pub zero_digest : Digest
zero_digest text = replicate 32 0
