-- What `--version` tells.
use Rattle.std.specs.Prelude.{◌≡◌, ℕ, List}
use Rattle.cstn_request.specs.declared.words.Release.{Release}
use Rattle.cstn_top.specs.commands.Version.{release_lines}
use Rattle.cstn_headline.specs.Telling.{Telling, good_only}

-- the text is the lines of the release
abbrev pub version_telling : Release → List ℕ → Telling
version_telling release text = good_only (text ≡ release_lines release)
