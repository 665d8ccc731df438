use Rattle.root.proofs.+whole_root.Given as goal

-- the number falls at each call
abbrev pub decreases-whole_root : goal.decreases-whole_root
decreases-whole_root l = l.n
