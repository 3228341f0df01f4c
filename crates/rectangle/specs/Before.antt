-- Reading as it was before request Q-1, for comparison alone: no function goes by it.
use Rattle.linecode.specs.Before.{read_before}
use Rattle.scheme.specs.Layer.{Reading, Layer}
use Rattle.rectangle.specs.Store.{line_layer}

unfoldable pub read_under_before : Reading
read_under_before address found = record { line = (read_before found).word; mark = (read_before found).mark }

-- the line code as it was
abbrev pub layer_before : Layer
layer_before =
    record { width = line_layer.width; address = line_layer.address; read = read_under_before; Correct = line_layer.Correct }
