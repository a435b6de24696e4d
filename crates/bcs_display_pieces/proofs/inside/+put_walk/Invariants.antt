use Rattle.bcs_display_pieces.proofs.inside.+put_walk.Given as goal

-- a byte string in a byte string has one level less
abbrev pub decreases-put_walk : goal.decreases-put_walk
decreases-put_walk l = l.levels
