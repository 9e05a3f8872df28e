mod Works
