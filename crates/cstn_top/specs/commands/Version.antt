-- `--version`: the number of the program's release, and the version of its lines.
use Rattle.std.specs.Prelude.{ℕ, List, ◌++◌, codes, decimal}
use Rattle.cstn_request.specs.declared.words.Release.{Release}
use Rattle.cstn_reply.specs.Texts.{Said, line}
use Rattle.cstn_reply.specs.declared.output.Outcome.TheVariants.{Good}

-- the lines of a release
abbrev pub release_lines : Release → List ℕ
release_lines release = line (codes "release " ++ decimal release.number) ++ line (codes "lines " ++ decimal release.lines)

-- what is said of a release
abbrev pub versioned : Release → Said
versioned release = record { outcome = Good; text = release_lines release }
