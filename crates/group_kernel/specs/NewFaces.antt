-- What the layers have of which a kernel's first faces are made.
use Rattle.std.specs.Prelude.{◌≡◌, All, length}
use Rattle.mem_objects.specs.Pages.{Pages}

-- each page has its 4,096 bytes
abbrev pub AreWhole : Pages → Type 0
AreWhole layer = All (λ page. length page.1 ≡ 4096) layer
