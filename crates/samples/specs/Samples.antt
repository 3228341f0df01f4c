-- Document 01, "Sample damage": the starred samples in one table, each row a claim that the definitions decide; the mark of place 543 is
-- request Q-1's.
use Rattle.std.specs.Prelude.{List, [], ◌∷◌, ◌++◌, replicate}
use Rattle.sampling.specs.Rows.{Sample, writes, accepts, refuses, mends, leaves, hurt, clean, last}

abbrev pub samples : List Sample
samples =
    writes (replicate 64 0) (replicate 70 0)
    ∷ writes (replicate 63 0 ++ (0x80 ∷ [])) (replicate 63 0 ++ (0x80 ∷ 0xC7 ∷ 0x6F ∷ 0x66 ∷ 0x56 ∷ 0x09 ∷ 0x00 ∷ []))
    ∷ accepts (0 ∷ []) 1
    ∷ accepts (542 ∷ []) 1
    ∷ accepts (543 ∷ []) 1
    ∷ refuses (0 ∷ 1 ∷ []) 6 2
    ∷ refuses (2 ∷ 3 ∷ []) 1 543
    ∷ refuses (35 ∷ 552 ∷ []) 554 553
    ∷ refuses (34 ∷ 552 ∷ []) 553 542
    ∷ mends 2 (hurt (0 ∷ 1 ∷ []) ∷ clean ∷ clean ∷ clean ∷ []) (3 ∷ 0 ∷ 0 ∷ 0 ∷ []) 1
    ∷ mends 2 (hurt (0 ∷ 1 ∷ []) ∷ hurt (2 ∷ 3 ∷ []) ∷ clean ∷ clean ∷ []) (2 ∷ 2 ∷ 0 ∷ 0 ∷ []) 1
    ∷ mends 2 (hurt (0 ∷ 1 ∷ []) ∷ hurt (0 ∷ 1 ∷ []) ∷ clean ∷ clean ∷ []) (3 ∷ 3 ∷ 0 ∷ 0 ∷ []) 1
    ∷ mends 2 (hurt (0 ∷ 1 ∷ []) ∷ hurt (0 ∷ 1 ∷ []) ∷ hurt (0 ∷ 1 ∷ []) ∷ clean ∷ []) (3 ∷ 3 ∷ 3 ∷ 0 ∷ []) 1
    ∷ leaves 2 (hurt (0 ∷ 1 ∷ []) ∷ hurt (0 ∷ 1 ∷ []) ∷ hurt (0 ∷ 1 ∷ []) ∷ hurt (0 ∷ 1 ∷ []) ∷ []) (4 ∷ 4 ∷ 4 ∷ 4 ∷ []) 1 11
    ∷ leaves 2 (last ∷ clean ∷ clean ∷ clean ∷ []) (0 ∷ 0 ∷ 0 ∷ 0 ∷ []) 0 12
    ∷ []
